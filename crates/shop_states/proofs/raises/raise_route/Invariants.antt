use Rattle.std.proofs.Common.{◌-◌, ◌<◌, length}
use Rattle.shop_states.specs.inner.{LaidLanes.rows_in, LaneRaises.raises_in, Raises.IsPosition, MachineRaises.AreListed}
use Rattle.shop_states.{specs.inner.Watchers.{Notes, Sees}, proofs.RaiseSteps.IsFollowing}
use Rattle.shop_layout.specs.Legs.{all_legs}
use Rattle.shop_states.proofs.raises.raise_route.Given as goal

abbrev pub invariant-loop-ready : goal.invariant-loop-ready
invariant-loop-ready g l = record {
  following : IsFollowing g.L.StateLanes.GREATEST l.routes l.position l.end l.index l.ready
      (rows_in g.L.StateLanes l.routes l.fn.lanes) (rows_in g.L.StateLanes l.routes l.lanes);
  noted : 0 < g.row.NUMBERS → record {
    seen : Sees l.routes.machines (IsPosition l.position) l.end
        (g.L.StateLanes.heads l.fn.lanes) (g.L.StateLanes.heads l.lanes) (raises_in g.L.StateLanes.value l.fn.raises)
        (raises_in g.L.StateLanes.value l.raises);
    notes : Notes l.routes.machines l.position l.end
        (g.L.StateLanes.heads l.fn.lanes) (g.L.StateLanes.heads l.lanes) (raises_in g.L.StateLanes.value l.fn.raises)
        (raises_in g.L.StateLanes.value l.raises);
    listed : AreListed (raises_in g.L.StateLanes.value l.raises) l.raised;
  };
}

abbrev pub decreases-loop-ready : goal.decreases-loop-ready
decreases-loop-ready g l = length (all_legs l.routes) - l.index
