use Rattle.std.{proofs.Common.{◌≡◌, ℕ, ◌<◌, length, slice_index_or}, specs.{Prelude.Vec, declared.alloc.Global.Global}}
use Rattle.shop_model.specs.{declared.ops.Op.Op, Limits.IsRouteWithin}
use Rattle.shop_model.proofs.instances.are_rows_within.Given as goal

abbrev pub invariant-loop-row : goal.invariant-loop-row
invariant-loop-row l = record {
  lengths : (k : ℕ) (d : Vec Op Global) → k < l.row-index → length (slice_index_or l.rows k d).items ≡ l.machines;
  operations : (k : ℕ) (d : Vec Op Global) → k < l.row-index
      → IsRouteWithin l.machines (slice_index_or l.rows k d).items;
}
