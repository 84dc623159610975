-- The times and tails of a layout, in lanes of any width.
--     greatest_in rows               the greatest number that a lane holds
--     HasRowsOf l rows               these are the times and tails of the layout
use Rattle.std.specs.Prelude.{◌≡◌, ℕ, ◌-◌, ◌^◌}
use Rattle.shop_layout.specs.{Positions.LayoutState, declared.fixed_rows.FixedRows.FixedRows}
use Rattle.shop_layout.specs.declared.fixed_rows.FixedRows.TheVariants.{In16, In32, In64}

abbrev pub greatest_in : FixedRows → ℕ
greatest_in (In16 r) = 65535
greatest_in (In32 r) = 4294967295
greatest_in (In64 r) = 2 ^ 64 - 1

abbrev pub HasRowsOf : LayoutState → FixedRows → Type 0
HasRowsOf l (In16 r) = (r.times.items ≡ l.times) × (r.tails.items ≡ l.tails)
HasRowsOf l (In32 r) = (r.times.items ≡ l.times) × (r.tails.items ≡ l.tails)
HasRowsOf l (In64 r) = (r.times.items ≡ l.times) × (r.tails.items ≡ l.tails)
