use Rattle.shop_nodes.proofs.BetterChildren.{loses_nothing}
use Rattle.shop_nodes.proofs.laws.branching_loses_no_table.Goals as goal

pub returns : goal.returns
returns c = loses_nothing
