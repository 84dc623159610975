-- What holds of the table that a full word places.
use Rattle.std.specs.Prelude.{◌≡◌, ℕ, ◌^◌, ◌≤◌, ◌<◌, List, ◌∷◌, ◌++◌}
use Rattle.shop_model.specs.Shop.{Shop, Starts, machine_of, finish_of, IsFeasible, end_of}
use Rattle.shop_model.specs.{Word.{placed, count_of, IsUnder}, Checking.{HasShape, starts_of, earliest_of}}

-- The rows have a start for each operation, the table is feasible, lies under the word and each of
-- its beginnings, and ends at the greatest placed end.
pub record IsPlacedBy (shop : Shop) (w : List ℕ) (rows : List (List ℕ)) : Type 0 where
  pub shape : HasShape shop rows
  pub feasible : IsFeasible shop (starts_of rows)
  pub under : (v later : List ℕ) → w ≡ v ++ later → IsUnder shop v (starts_of rows)
  pub ends : end_of shop (starts_of rows) ≡ end_of shop (placed shop w)

-- each step ends before 2^50
abbrev pub AllEndSoon : Shop → List (List ℕ) → Type 0
AllEndSoon shop rows = (j k : ℕ) → finish_of shop (starts_of rows) j k < 2 ^ 50

-- Step k of job j, placed next behind v, begins as soon as it can: not before its job is released or the step before it
-- ends, nor before what v has on its machine ends, and at the first such instant (semi-active schedule).
pub record BeginsAsSoon (shop : Shop) (starts : Starts) (v : List ℕ) (j k : ℕ) : Type 0 where
  pub after_job : earliest_of shop starts j k ≤ starts j k
  pub after_machine : (i l : ℕ) → l < count_of i v → machine_of shop i l ≡ machine_of shop j k
      → finish_of shop starts i l ≤ starts j k
  pub first : (t : ℕ) → earliest_of shop starts j k ≤ t
      → ((i l : ℕ) → l < count_of i v → machine_of shop i l ≡ machine_of shop j k → finish_of shop starts i l ≤ t)
      → starts j k ≤ t

-- each operation of a word begins as soon as it can in the table that the word places
abbrev pub AllBeginAsSoon : Type 0
AllBeginAsSoon = (shop : Shop) (w v later : List ℕ) (j : ℕ) → w ≡ v ++ j ∷ later
    → BeginsAsSoon shop (placed shop w) v j (count_of j v)
