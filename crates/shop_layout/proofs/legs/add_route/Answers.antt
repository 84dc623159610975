use Rattle.std.proofs.{Common.arith, lemmas.Grind.common_steps}
use Rattle.shop_layout.proofs.legs.add_route.Goals as goal

pub loop-position-preserved : goal.loop-position-preserved
loop-position-preserved c = grind (arith, common_steps)
