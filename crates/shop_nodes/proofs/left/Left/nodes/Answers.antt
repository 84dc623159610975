use Rattle.std.proofs.{Common.arith, lemmas.Grind.common_steps}
use Rattle.shop_nodes.proofs.left.Left.nodes.Goals as goal

pub returns-clause-words : goal.returns-clause-words
returns-clause-words c = grind (arith, common_steps)
