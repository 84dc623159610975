use Rattle.std.proofs.Common.{ℕ, ◌<◌}
use Rattle.shop_model.specs.{Checking.starts_of, inner.FirstFaults.IsJobApart}
use Rattle.shop_model.proofs.sorted_overlaps.first_unclear_overlap.Given as goal

abbrev pub invariant-loop-j : goal.invariant-loop-j
invariant-loop-j l = (i : ℕ) → i < l.j → IsJobApart l.instance (starts_of l.table) i
