-- The lists of the machines' operations while they are made.
--     AddsOperations old new route j  each list has the operations of job j on its machine added at its end
use Rattle.std.specs.Prelude.{◌≡◌, ℕ, ◌<◌, List, [], ◌++◌, length, slice_index_or}
use Rattle.shop_model.specs.{declared.ops.Op.Op}
use Rattle.shop_layout.specs.{Slots.{operations_in}, declared.slots.Slot.Slot}

abbrev pub AddsOperations : List (List Slot) → List (List Slot) → List Op → ℕ → Type 0
AddsOperations old new route j = (m : ℕ) → m < length old
    → slice_index_or new m [] ≡ slice_index_or old m [] ++ operations_in route m j
