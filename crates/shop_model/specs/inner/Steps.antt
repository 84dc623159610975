-- The operations of one job against its row of starts.
use Rattle.std.specs.Prelude.{◌≡◌, ℕ, zero, suc, ◌+◌, ◌≤◌, ◌<◌, ◌⊎◌, List, length, slice_index, slice_index_or, Option}
use Rattle.std.specs.Prelude.{Some, None}
use Rattle.shop_model.specs.{declared.limits.TheConstants.{MAX_TIME, MAX_START}, declared.ops.Op.Op}
use Rattle.shop_model.specs.Shop.{no_op, greatest_below}

-- the machine and the end of step k
abbrev pub machine_at : List Op → ℕ → ℕ
machine_at route k = (slice_index_or route k no_op).machine

abbrev pub finish_at : List Op → List ℕ → ℕ → ℕ
finish_at route row k = slice_index row k + (slice_index_or route k no_op).time

-- when step k may begin
abbrev pub earliest_at : ℕ → List Op → List ℕ → ℕ → ℕ
earliest_at release route row zero = release
earliest_at release route row (suc k) = finish_at route row k

-- the starts and the times are small enough to be added
pub record AreSmallEnds (route : List Op) (row : List ℕ) : Type 0 where
  pub same_length : length row ≡ length route
  pub times : (k : ℕ) → (slice_index_or route k no_op).time ≤ MAX_TIME
  pub starts : (k : ℕ) → slice_index row k ≤ MAX_START

-- the first step that begins too early, if one does
abbrev pub TellsEarlyStep : ℕ → List Op → List ℕ → Option ℕ → Type 0
TellsEarlyStep release route row None = (k : ℕ) → k < length route → earliest_at release route row k ≤ slice_index row k
TellsEarlyStep release route row (Some k) = (k < length route) × (slice_index row k < earliest_at release route row k)
    × ((l : ℕ) → l < k → earliest_at release route row l ≤ slice_index row l)

-- the step keeps clear of what is on this machine from start to finish
abbrev pub IsClear : ℕ → ℕ → ℕ → List Op → List ℕ → ℕ → Type 0
IsClear machine start finish route row k = machine ≡ machine_at route k
    → (finish ≤ slice_index row k) ⊎ (finish_at route row k ≤ start)

-- the first step, from this one on, that doesn't keep clear of it, if there is one
abbrev pub TellsFirstClash : ℕ → ℕ → ℕ → List Op → List ℕ → ℕ → Option ℕ → Type 0
TellsFirstClash machine start finish route row from None =
    (k : ℕ) → from ≤ k → k < length route → IsClear machine start finish route row k
TellsFirstClash machine start finish route row from (Some k) = (from ≤ k) × (k < length route)
    × (machine ≡ machine_at route k) × (slice_index row k < finish) × (start < finish_at route row k)
    × ((l : ℕ) → from ≤ l → l < k → IsClear machine start finish route row l)

-- the greatest end of a step, 0 if there is none
abbrev pub end_at : List Op → List ℕ → ℕ
end_at route row = greatest_below (length route) (λ k. finish_at route row k)

-- each step ends not later than the next one begins
abbrev pub KeepsOrder : List Op → List ℕ → Type 0
KeepsOrder route row = (k : ℕ) → k + 1 < length route → finish_at route row k ≤ slice_index row (k + 1)

-- each step of one job keeps clear of each step of another
abbrev pub AreClear : List Op → List ℕ → List Op → List ℕ → Type 0
AreClear route row others other_row = (k l : ℕ) → k < length route → l < length others
    → IsClear (machine_at route k) (slice_index row k) (finish_at route row k) others other_row l
