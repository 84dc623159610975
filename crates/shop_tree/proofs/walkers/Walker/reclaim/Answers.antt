use Rattle.std.proofs.Common.{arith}
use Rattle.shop_tree.proofs.{StateLemmas.{held_stripped, pending_stripped}, StateSteps.{stands_then}}
use Rattle.shop_tree.proofs.walkers.Walker.reclaim.Goals as goal

pub loop-self-preserved : goal.loop-self-preserved
loop-self-preserved g c = grind (arith, stands_then, pending_stripped, held_stripped)
