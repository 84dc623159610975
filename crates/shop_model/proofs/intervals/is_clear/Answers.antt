use Rattle.std.proofs.{Common.arith, lemmas.Grind.common_steps}
use Rattle.shop_model.proofs.intervals.is_clear.Goals as goal

pub returns-then-k-intervals : goal.returns-then-k-intervals
returns-then-k-intervals c = grind (arith, common_steps)
