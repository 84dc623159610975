use Rattle.std.proofs.Common.{◌≤◌, ◌-◌}
use Rattle.shop_states.specs.inner.LaneChoices.{IsAlone}
use Rattle.shop_states.proofs.lane_choices.is_alone_in.Given as goal

abbrev pub invariant-loop-from : goal.invariant-loop-from
invariant-loop-from g l = record {
  ordered : l.first ≤ l.from;
  within : l.from ≤ l.behind;
  alone : IsAlone (g.L.StateLanes.heads l.lanes) l.first l.from l.limit l.position;
}

abbrev pub decreases-loop-from : goal.decreases-loop-from
decreases-loop-from g l = l.behind - l.from
