use Rattle.std.proofs.Common.{ℕ, ◌+◌, ◌<◌, slice_index_or}
use Rattle.shop_model.specs.{declared.intervals.Interval.Interval, inner.Intervals.IsInTurn}
use Rattle.shop_model.proofs.intervals.are_in_turn.Given as goal

abbrev pub invariant-loop-k : goal.invariant-loop-k
invariant-loop-k l = (i : ℕ) (d : Interval) → i + 1 < l.k
    → IsInTurn (slice_index_or l.intervals i d) (slice_index_or l.intervals (i + 1) d)
