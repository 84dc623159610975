use Rattle.std.proofs.Common.{rules}
use Rattle.shop_runs.proofs.open_nodes.OpenNodes.put_if_open.Goals as goal

pub returns : goal.returns
returns c = search rules
