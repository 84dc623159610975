use Rattle.std.proofs.Common.{◌≡◌, ◌≤◌, replicate, vec_len, vec_capacity}
use Rattle.shop_states.specs.inner.LaneRaises.{nothing_raised, raises_in}
use Rattle.shop_states.proofs.machine_raises.MachineRaises.new.Given as goal

abbrev pub invariant-loop : goal.invariant-loop
invariant-loop g l = record {
  none : raises_in g.L.StateLanes.value l.raises.items ≡ replicate l.counter (nothing_raised g.L.StateLanes.GREATEST);
  long : vec_len l.raises ≡ l.counter;
  room : l.machines ≤ vec_capacity l.raises;
}
