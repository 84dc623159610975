use Rattle.std.proofs.Common.{◌≡◌, length}
use Rattle.shop_layout.specs.Lanes.{lanes_on}
use Rattle.shop_states.{specs.inner.{LaneRaises.raises_in, LaidLanes.rows_in}, proofs.RaisedMachines.IsFoundSo}
use Rattle.shop_states.proofs.machine_raises.MachineRaises.take_ceilings.Given as goal

abbrev pub invariant-loop-machine : goal.invariant-loop-machine
invariant-loop-machine g l = record {
  found : IsFoundSo l.lowest (l.fn.self)
      (lanes_on (rows_in g.L.StateLanes l.grid l.lanes) l.grid)
      (raises_in g.L.StateLanes.value l.raises) l.left l.ceilings l.greatest;
  long : length l.ceilings ≡ length l.fn.ceilings;
}

abbrev pub decreases-loop-machine : goal.decreases-loop-machine
decreases-loop-machine g l = length l.left
