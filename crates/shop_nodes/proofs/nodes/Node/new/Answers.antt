use Rattle.std.proofs.Common.{rules}
use Rattle.shop_nodes.proofs.nodes.Node.new.Goals as goal

pub returns : goal.returns
returns c = search rules
