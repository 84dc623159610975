use Rattle.std.proofs.Common.{below_more}
use Rattle.shop_runs.proofs.plans.Order.of_word.Goals as goal

pub loop-order-preserved : goal.loop-order-preserved
loop-order-preserved c = below_more _ _ c.loop-order.invariant (cc)
