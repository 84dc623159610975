use Rattle.std.proofs.Common.{[], ◌-◌, length}
use Rattle.shop_states.specs.inner.{LaneRaises.raises_in, LaidLanes.rows_in, MachineRaises.AreListed, Raises.AsksNext}
use Rattle.shop_states.{specs.inner.Watchers.{Watches, no_floor}, proofs.BehindRaises.{AreLateRaised, free_on}}
use Rattle.shop_states.proofs.RaiseLoops.{AreMarksRaised}
use Rattle.shop_states.proofs.late_raises.raise_late.Given as goal

abbrev pub invariant-loop-from : goal.invariant-loop-from
invariant-loop-from g l = record {
  raises : AreLateRaised g.L.StateLanes.GREATEST l.routes l.late l.from (rows_in g.L.StateLanes l.routes l.fn.lanes)
      (rows_in g.L.StateLanes l.routes l.lanes);
  noted : Watches no_floor l.routes.machines (g.L.StateLanes.heads l.fn.lanes) (g.L.StateLanes.heads l.lanes)
      (raises_in g.L.StateLanes.value l.fn.raises) (raises_in g.L.StateLanes.value l.raises);
  listed : AreListed (raises_in g.L.StateLanes.value l.raises) l.raised;
}

abbrev pub decreases-loop-from : goal.decreases-loop-from
decreases-loop-from g l = l.late.behind - l.from

abbrev pub invariant-loop-position : goal.invariant-loop-position
invariant-loop-position g l = record {
  raises : AreMarksRaised g.L.StateLanes.GREATEST l.routes [] l.initial.todo (AsksNext l.routes (free_on l.late))
      l.todo (rows_in g.L.StateLanes l.routes l.initial.lanes) (rows_in g.L.StateLanes l.routes l.lanes);
  noted : Watches no_floor l.routes.machines (g.L.StateLanes.heads l.fn.lanes) (g.L.StateLanes.heads l.lanes)
      (raises_in g.L.StateLanes.value l.fn.raises) (raises_in g.L.StateLanes.value l.raises);
  listed : AreListed (raises_in g.L.StateLanes.value l.raises) l.raised;
}

abbrev pub decreases-loop-position : goal.decreases-loop-position
decreases-loop-position g l = length l.todo
