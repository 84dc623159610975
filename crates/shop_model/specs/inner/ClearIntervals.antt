-- Intervals that overlap with no other.
use Rattle.std.specs.Prelude.{◌≡◌, ℕ, ◌+◌, ◌≤◌, ◌<◌, ◌⊎◌, List, [], length, slice_index_or}
use Rattle.shop_model.specs.{declared.intervals.Interval.Interval, Shop.{Shop, route_of, IsOperation}}
use Rattle.shop_model.specs.{Checking.starts_of, inner.{FirstFaults.IsApartAfter, Intervals.{interval_at, IsInTurn}}}

-- one interval is on a lower machine, or ends not later
abbrev pub EndsNotAfter : Interval → Interval → Type 0
EndsNotAfter a b = (a.machine < b.machine) ⊎ ((a.machine ≡ b.machine) × (a.finish ≤ b.finish))

-- one interval is on a lower machine, or begins not later
abbrev pub BeginsNotAfter : Interval → Interval → Type 0
BeginsNotAfter a b = (a.machine < b.machine) ⊎ ((a.machine ≡ b.machine) × (a.start ≤ b.start))

-- so each does with the next
abbrev pub AreInOrder : List Interval → Type 0
AreInOrder intervals = (k : ℕ) (d : Interval) → k + 1 < length intervals
    → BeginsNotAfter (slice_index_or intervals k d) (slice_index_or intervals (k + 1) d)

-- interval k is in turn with `latest`, and with the next one
abbrev pub IsBetween : Interval → List Interval → ℕ → Type 0
IsBetween latest intervals k = (d : Interval) → IsInTurn latest (slice_index_or intervals k d)
    × (k + 1 < length intervals → IsInTurn (slice_index_or intervals k d) (slice_index_or intervals (k + 1) d))

-- two intervals on one machine don't overlap
abbrev pub ArePartedIntervals : Interval → Interval → Type 0
ArePartedIntervals a b = a.machine ≡ b.machine → (a.finish ≤ b.start) ⊎ (b.finish ≤ a.start)

-- it is one of the intervals, and overlaps with none of the others
pub record IsClearOf (intervals : List Interval) (a : Interval) : Type 0 where
  pub index : ℕ
  pub is : (d : Interval) → slice_index_or intervals index d ≡ a
  pub parted : (n : ℕ) (d : Interval) → n < length intervals → (n ≡ index → ⊥)
      → ArePartedIntervals a (slice_index_or intervals n d)

-- so is each of these
abbrev pub AreClearOf : List Interval → List Interval → Type 0
AreClearOf intervals clear = (k : ℕ) (d : Interval) → k < length clear → IsClearOf intervals (slice_index_or clear k d)

-- each operation with one of these intervals is apart from all later ones
abbrev pub AreOfApart : Shop → List (List ℕ) → List Interval → Type 0
AreOfApart shop rows clear = (j k n : ℕ) (d : Interval) → IsOperation shop j k → n < length clear
    → slice_index_or clear n d ≡ interval_at (route_of shop j) (slice_index_or rows j []) k
    → IsApartAfter shop (starts_of rows) j k
