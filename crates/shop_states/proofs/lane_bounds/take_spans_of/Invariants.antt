use Rattle.std.proofs.Common.{length}
use Rattle.shop_layout.specs.Lanes.{lanes_on}
use Rattle.shop_states.{specs.inner.{LaneRaises.raises_in, LaidLanes.rows_in}, proofs.RaisedMachines.IsTakenSo}
use Rattle.shop_states.proofs.lane_bounds.take_spans_of.Given as goal

abbrev pub invariant-loop-machine : goal.invariant-loop-machine
invariant-loop-machine g l = IsTakenSo l.range.least l.range.limit (raises_in g.L.StateLanes.value l.fn.raises)
    (lanes_on (rows_in g.L.StateLanes l.grid l.lanes) l.grid)
    (raises_in g.L.StateLanes.value l.raises) l.left l.most

abbrev pub decreases-loop-machine : goal.decreases-loop-machine
decreases-loop-machine g l = length l.left
