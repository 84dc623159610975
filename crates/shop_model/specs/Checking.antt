-- What a check of a table answers.
--     HasShape shop rows           the rows have a start for each operation of the instance
--     IsVerdict shop rows verdict  what the verdict says is so, and it is the first fault in the order of the check
use Rattle.std.specs.Prelude.{◌≡◌, ℕ, zero, suc, ◌≤◌, ◌<◌, ◌⊎◌, ◌↔◌, List, [], length, slice_index_or}
use Rattle.shop_model.specs.Shop.{Shop, Starts, route_of, release_of, machine_of, IsOperation, IsFeasible, finish_of}
use Rattle.shop_model.specs.{Shop.end_of, declared.checking.Verdict.Verdict}
use Rattle.shop_model.specs.declared.checking.Verdict.TheVariants.{Feasible, WrongSize, Unreleased, Early, Overlap}

-- the starts that stand in the rows, one row a job
abbrev pub starts_of : List (List ℕ) → Starts
starts_of rows j k = slice_index_or (slice_index_or rows j []) k 0

pub record HasShape (shop : Shop) (rows : List (List ℕ)) : Type 0 where
  pub jobs : length rows ≡ length shop.jobs
  pub steps : (j : ℕ) → length (slice_index_or rows j []) ≡ length (route_of shop j)

-- when (j, k) may begin: at its job's release, and at the end of the step before it
abbrev pub earliest_of : Shop → Starts → ℕ → ℕ → ℕ
earliest_of shop starts j zero = release_of shop j
earliest_of shop starts j (suc k) = finish_of shop starts j k

-- the rows have the instance's shape, and are a feasible table that ends at c
abbrev pub EndsAt : Shop → List (List ℕ) → ℕ → Type 0
EndsAt shop rows c = HasShape shop rows × IsFeasible shop (starts_of rows)
    × (c ≡ end_of shop (starts_of rows))

-- (j, k) stands before (i, l): by job, then by step
abbrev pub IsBefore : ℕ → ℕ → ℕ → ℕ → Type 0
IsBefore j k i l = (j < i) ⊎ ((j ≡ i) × (k < l))

abbrev pub NoneEarly : Shop → Starts → Type 0
NoneEarly shop starts = (j k : ℕ) → IsOperation shop j k → earliest_of shop starts j k ≤ starts j k

-- (j, k) is the first operation that begins too early
pub record IsFirstEarly (shop : Shop) (starts : Starts) (j k : ℕ) : Type 0 where
  pub operation : IsOperation shop j k
  pub early : starts j k < earliest_of shop starts j k
  pub first : (i l : ℕ) → IsOperation shop i l → IsBefore i l j k
      → earliest_of shop starts i l ≤ starts i l

-- one ends not later than the other begins, if they are of one machine
abbrev pub AreApart : Shop → Starts → ℕ → ℕ → ℕ → ℕ → Type 0
AreApart shop starts j k i l = machine_of shop j k ≡ machine_of shop i l
    → (finish_of shop starts j k ≤ starts i l) ⊎ (finish_of shop starts i l ≤ starts j k)

-- (i, l) is the first operation after (j, k) of its machine such that neither ends before the other
-- begins
pub record IsFirstAfter (shop : Shop) (starts : Starts) (j k i l : ℕ) : Type 0 where
  pub operation : IsOperation shop i l
  pub after : IsBefore j k i l
  pub same_machine : machine_of shop j k ≡ machine_of shop i l
  pub second_begins : starts i l < finish_of shop starts j k
  pub first_begins : starts j k < finish_of shop starts i l
  pub first : (c d : ℕ) → IsOperation shop c d → IsBefore j k c d → IsBefore c d i l
      → AreApart shop starts j k c d

-- (j, k) and (i, l), in this order, are the first pair of one machine such that neither ends before
-- the other begins: by the first of the two, then by the second
pub record IsFirstOverlap (shop : Shop) (starts : Starts) (j k i l : ℕ) : Type 0 where
  pub operation : IsOperation shop j k
  pub second : IsFirstAfter shop starts j k i l
  pub first : (a b c d : ℕ) → IsOperation shop a b → IsOperation shop c d → IsBefore a b j k
      → IsBefore a b c d
      → AreApart shop starts a b c d

-- What each verdict says. A release is step 0 of its job; of two steps that aren't in order the
-- later one is named. Early steps come before overlaps, and overlaps stand in the order of their
-- pairs and not of machines.
abbrev pub IsVerdict : Shop → List (List ℕ) → Verdict → Type 0
IsVerdict shop rows (Feasible c) = EndsAt shop rows c
IsVerdict shop rows WrongSize = HasShape shop rows → ⊥
IsVerdict shop rows (Unreleased j) = HasShape shop rows × IsFirstEarly shop (starts_of rows) j 0
IsVerdict shop rows (Early j k) = HasShape shop rows × (0 < k)
    × IsFirstEarly shop (starts_of rows) j k
IsVerdict shop rows (Overlap m p q) = HasShape shop rows × NoneEarly shop (starts_of rows)
    × (m ≡ machine_of shop p.job p.step)
    × IsFirstOverlap shop (starts_of rows) p.job p.step q.job q.step

-- What a check answers: the verdict is so, and feasible tables and tables of another shape are told as such.
pub record IsChecked (shop : Shop) (rows : List (List ℕ)) (verdict : Verdict) : Type 0 where
  pub verdict_holds : IsVerdict shop rows verdict
  pub feasible : (c : ℕ) → (verdict ≡ Feasible c) ↔ EndsAt shop rows c
  pub wrong_size : (verdict ≡ WrongSize) ↔ (HasShape shop rows → ⊥)
