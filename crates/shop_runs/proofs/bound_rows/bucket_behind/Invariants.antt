use Rattle.std.proofs.Common.{◌≤◌, length, take}
use Rattle.shop_runs.specs.inner.Stacks.{nodes_in_row}
use Rattle.shop_runs.proofs.bound_rows.bucket_behind.Given as goal

abbrev pub invariant-loop-index : goal.invariant-loop-index
invariant-loop-index l = l.count ≤ length (nodes_in_row 0 (take l.index l.stacks))
