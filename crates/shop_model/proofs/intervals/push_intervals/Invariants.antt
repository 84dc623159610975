use Rattle.std.{proofs.Common.{◌≡◌, ◌++◌, map}, specs.List.range_with_len}
use Rattle.shop_model.specs.inner.Intervals.{interval_at}
use Rattle.shop_model.proofs.intervals.push_intervals.Given as goal

abbrev pub invariant-loop-k : goal.invariant-loop-k
invariant-loop-k l = l.intervals.items
    ≡ l.initial.intervals.items ++ map (interval_at l.route l.row) (range_with_len 0 l.k)
