use Rattle.std.proofs.Common.{ℕ, ◌≤◌, ◌-◌, List, []}
use Rattle.shop_states.specs.inner.{JobSets.HasPut, LaneChoices.IsJobBelow, Raises.IsInBlocks, RisingLists.HasGathered}
use Rattle.shop_states.proofs.lane_choices.conflict_set.Given as goal

abbrev pub invariant-loop-from : goal.invariant-loop-from
invariant-loop-from g l = (one : List ℕ) × record {
  put : HasPut l.fn.blocks.chosen [] one;
  ordered : l.fn.blocks.from ≤ l.from;
  within : l.from ≤ l.behind;
  gathered : HasGathered (IsJobBelow l.grid (g.L.StateLanes.heads l.lanes) (IsInBlocks l.fn.blocks.from l.from) l.end)
      one l.jobs;
}

abbrev pub decreases-loop-from : goal.decreases-loop-from
decreases-loop-from g l = l.behind - l.from
