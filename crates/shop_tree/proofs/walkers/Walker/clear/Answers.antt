use Rattle.std.proofs.{Common.arith, lemmas.Grind.common_steps}
use Rattle.shop_tree.proofs.walkers.Walker.clear.Goals as goal

pub loop-held-preserved : goal.loop-held-preserved
loop-held-preserved g c = grind (arith, common_steps)
