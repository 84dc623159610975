use Rattle.std.proofs.{Common.arith, lemmas.Grind.common_steps}
use Rattle.shop_runs.proofs.bound_maps.BoundMap.count.Goals as goal

pub loop-stack-preserved : goal.loop-stack-preserved
loop-stack-preserved c = grind (arith, common_steps)
