use Rattle.std.proofs.Common.{◌≡◌, ◌+◌, length, drop}
use Rattle.shop_runs.specs.inner.Stacks.{nodes_in_row}
use Rattle.shop_runs.proofs.bound_rows.BoundRow.count.Given as goal

abbrev pub invariant-loop-bucket : goal.invariant-loop-bucket
invariant-loop-bucket l =
    l.count + length (nodes_in_row 0 (drop l.bucket-index l.bucket-items)) ≡ length l.self
