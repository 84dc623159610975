use Rattle.std.proofs.Common.{◌≡◌, ◌<◌, length}
use Rattle.shop_states.specs.inner.{LaidLanes.rows_in, LaneRaises.raises_in, MachineRaises.AreListed, RisingLists.IsIn}
use Rattle.shop_states.{specs.inner.{Raises.AsksOwn, Watchers.Sees}, proofs.RaiseLoops.AreMarksRaised}
use Rattle.shop_states.proofs.raises.raise_marked.Given as goal

abbrev pub invariant-loop-position : goal.invariant-loop-position
invariant-loop-position g l = record {
  raised : AreMarksRaised g.L.StateLanes.GREATEST l.routes l.next l.fn.marks (AsksOwn l.end) l.todo
      (rows_in g.L.StateLanes l.routes l.fn.lanes) (rows_in g.L.StateLanes l.routes l.lanes);
  noted : 0 < g.row.NUMBERS → record {
    seen : Sees l.routes.machines (IsIn l.fn.marks) l.end (g.L.StateLanes.heads l.fn.lanes)
        (g.L.StateLanes.heads l.lanes) (raises_in g.L.StateLanes.value l.fn.raises)
        (raises_in g.L.StateLanes.value l.raises);
    machines : length (raises_in g.L.StateLanes.value l.raises)
        ≡ length (raises_in g.L.StateLanes.value l.fn.raises);
    listed : AreListed (raises_in g.L.StateLanes.value l.raises) l.raised;
  };
}

abbrev pub decreases-loop-position : goal.decreases-loop-position
decreases-loop-position g l = length l.todo
