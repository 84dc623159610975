use Rattle.std.proofs.Common.{◌-◌}
use Rattle.shop_lanes.{specs.Rows.lanes_in, proofs.LeapTurns.IsLeaped}
use Rattle.shop_lanes.proofs.leaps.leap.Given as goal

abbrev pub invariant-loop-settled : goal.invariant-loop-settled
invariant-loop-settled g l =
    IsLeaped l.fn.range.above l.fn.range.upto l.most (lanes_in g.B.Block.value l.rows) l.settled l.bound

abbrev pub decreases-loop-settled : goal.decreases-loop-settled
decreases-loop-settled g l = l.fn.range.upto - l.settled
