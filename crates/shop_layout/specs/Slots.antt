-- The operations of a machine as a program keeps them.
--     operations_on shop m           the operations of machine m, job by job, step by step
--     AreSlotsOf shop m slots        the operations of machine m by nonincreasing tails
use Rattle.std.specs.Prelude.{◌≡◌, ℕ, ◌<◌, ◌==◌, List, [], length, map, filter, flat_map, slice_index_or, IsPermutation}
use Rattle.std.specs.List.{range_with_len}
use Rattle.shop_model.specs.{declared.ops.Op.Op, Shop.{Shop, no_op, route_of}}
use Rattle.shop_bound.specs.{Heads.tail_in, inner.NonincreasingTails.IsNonincreasing}
use Rattle.shop_layout.specs.declared.slots.Slot.{Slot}

-- step k of job j, which has this route, as its machine sees it
abbrev pub slot_at : List Op → ℕ → ℕ → Slot
slot_at route j k = record { job = j; step = k; time = (slice_index_or route k no_op).time; tail = tail_in route k }

-- the operations of one job on machine m, and of all jobs
abbrev pub operations_in : List Op → ℕ → ℕ → List Slot
operations_in route m j = map (slot_at route j)
    (filter (λ k. (slice_index_or route k no_op).machine == m) (range_with_len 0 (length route)))

abbrev pub operations_on : Shop → ℕ → List Slot
operations_on shop m = flat_map (λ j. operations_in (route_of shop j) m j) (range_with_len 0 (length shop.jobs))

pub record AreSlotsOf (shop : Shop) (m : ℕ) (slots : List Slot) : Type 0 where
  pub same : IsPermutation (operations_on shop m) slots
  pub nonincreasing : IsNonincreasing (λ s. s.tail) slots

-- a list for each machine
pub record AreMachineSlots (shop : Shop) (lists : List (List Slot)) : Type 0 where
  pub machines : length lists ≡ shop.machines
  pub slots : (m : ℕ) → m < shop.machines → AreSlotsOf shop m (slice_index_or lists m [])
