use Rattle.std.proofs.Common.{◌≡◌, ◌+◌, ◌-◌, ◌<◌, get_or, min}
use Rattle.shop_lanes.specs.Marks.{positions_among}
use Rattle.shop_states.specs.inner.{LaneRaises.raises_in, LaidLanes.rows_in, MachineRaises.AreListed}
use Rattle.shop_states.proofs.MarkedRaises.{AreDelayedRaised, AreRaisedUpTo}
use Rattle.shop_states.proofs.raises.raise_any.Given as goal

abbrev pub invariant-loop-from : goal.invariant-loop-from
invariant-loop-from g l = record {
  blocks : AreDelayedRaised g.L.StateLanes.GREATEST l.grid l.next l.fn.dispatch l.from
      (rows_in g.L.StateLanes l.grid l.fn.lanes) (rows_in g.L.StateLanes l.grid l.lanes);
  marked : l.marks ≡ positions_among (g.L.StateLanes.heads l.lanes) l.from
      (min (l.from + 8) (get_or l.grid.blocks (l.fn.dispatch.machine + 1) 0)) l.fn.dispatch.end;
  noted : 0 < g.row.NUMBERS → AreRaisedUpTo g.L.StateLanes.GREATEST l.grid l.next l.fn.dispatch l.from
      (rows_in g.L.StateLanes l.grid l.fn.lanes) (rows_in g.L.StateLanes l.grid l.lanes)
      (raises_in g.L.StateLanes.value l.fn.raises) (raises_in g.L.StateLanes.value l.raises)
      × AreListed (raises_in g.L.StateLanes.value l.raises) l.machines;
}

abbrev pub decreases-loop-from : goal.decreases-loop-from
decreases-loop-from g l = l.behind - l.from
