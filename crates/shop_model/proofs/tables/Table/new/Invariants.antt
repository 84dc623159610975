use Rattle.std.proofs.Common.{ℕ, ◌<◌, ◌≤◌, [], map, slice_index_or}
use Rattle.shop_model.specs.declared.limits.TheConstants.{MAX_START}
use Rattle.shop_model.proofs.tables.Table.new.Given as goal

abbrev pub invariant-loop-row : goal.invariant-loop-row
invariant-loop-row l = (j k : ℕ) → j < l.row-index
    → slice_index_or (slice_index_or (map (λ r. r.items) l.row-items) j []) k 0 ≤ MAX_START
