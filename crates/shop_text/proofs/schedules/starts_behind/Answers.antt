use Rattle.std.proofs.{Common.arith, lemmas.Grind.common_steps}
use Rattle.shop_text.proofs.schedules.starts_behind.Goals as goal

pub loop-number-preserved : goal.loop-number-preserved
loop-number-preserved c = grind (arith, common_steps)
