use Rattle.std.proofs.Common.{arith}
use Rattle.shop_bound.proofs.{Filled.filled_more, TimeSums.times_from}
use Rattle.shop_bound.proofs.heads_and_tails.tails_of_route.Goals as goal

pub loop-op-preserved : goal.loop-op-preserved
loop-op-preserved c = grind (arith, times_from, filled_more)

pub overflow_sub-tail : goal.overflow_sub-tail
overflow_sub-tail c =
    omega (arith, times_from c.args.route.now c.loop-op.op-index c.loop-op-test.true, c.loop-op.invariant.tail)
