-- Worked rows of what is said of all tables: lying under a word, the least makespan, and covering.
use Rattle.std.proofs.Common.{◌≡◌, ℕ, zero, suc, ◌≤◌, List, [], ◌∷◌, ◌++◌, refl, arith, lit<, lit≤}
use Rattle.shop_model.specs.{Shop.{IsOperation, IsFeasible, IsLeast, Starts, machine_of, finish_of}, Word.count_of}
use Rattle.shop_model.{specs.{Word.IsUnder, Checking.starts_of}, proofs.{Rows.shop_a, Deciding.feasible_by_test}}
use Rattle.shop_runs.{specs.Round.Covers, proofs.{Covering.opens_covering, Trusting.trustworthy, Rows.plan}}

-- the least table of two jobs that cross: both begin at once, and it ends at 7
abbrev crossing : Starts
crossing = starts_of ((0 ∷ 3 ∷ []) ∷ (0 ∷ 3 ∷ []) ∷ [])

is_feasible : IsFeasible shop_a crossing
is_feasible = feasible_by_test shop_a _ refl refl

-- on machine 1 only the second step of job 0 comes after the first step of job 1
comes_later : (i l : ℕ) → IsOperation shop_a i l → count_of i (1 ∷ []) ≤ l → machine_of shop_a i l ≡ 1
    → 2 ≤ crossing i l
comes_later zero zero o c m = absurd (omega arith)
comes_later zero (suc zero) o c m = lit≤ tt
comes_later zero (suc (suc l)) o c m = absurd (omega arith)
comes_later (suc zero) zero o c m = absurd (omega arith)
comes_later (suc zero) (suc zero) o c m = absurd (omega arith)
comes_later (suc zero) (suc (suc l)) o c m = absurd (omega arith)
comes_later (suc (suc i)) l o c m = absurd (omega arith)

one_entry : (v : List ℕ) (j : ℕ) (later : List ℕ) → 1 ∷ [] ≡ v ++ j ∷ later → (v ≡ []) × (1 ≡ j)
one_entry [] j later e = (refl, cc)
one_entry (x ∷ []) j later e = absurd (let f : [] ≡ j ∷ later = cc in cc)
one_entry (x ∷ y ∷ v) j later e = absurd (let f : [] ≡ y ∷ (v ++ j ∷ later) = cc in cc)

abbrev Waits : List ℕ → ℕ → Type 0
Waits v j = (i l : ℕ) → IsOperation shop_a i l → count_of i (v ++ j ∷ []) ≤ l
    → machine_of shop_a i l ≡ machine_of shop_a j (count_of j v)
    → finish_of shop_a crossing j (count_of j v) ≤ crossing i l

-- it lies under the word that begins with job 1
pub under_job_1 : IsUnder shop_a (1 ∷ []) crossing
under_job_1 = grind (arith, is_feasible, one_entry, comes_later)

-- and not under the word of both steps of job 0, since job 1 stands before it on machine 1
pub not_under_job_0 : IsUnder shop_a (0 ∷ 0 ∷ []) crossing → ⊥
not_under_job_0 u =
    absurd (let h : 5 ≤ 0 = u.first (0 ∷ []) 0 [] refl 1 0 (lit< tt) (lit≤ tt) refl in omega arith)

-- 7 is the least makespan, and 11 isn't
pub least_7 : IsLeast shop_a 7
least_7 = (trustworthy shop_a (plan 1 100)).least refl

pub least_not_11 : IsLeast shop_a 11 → ⊥
least_not_11 h = absurd (let a : 11 ≤ 7 = h.least crossing is_feasible in omega arith)

-- the start word's makespan with the empty word open covers
pub start_covers : Covers shop_a 11 ([] ∷ [])
start_covers = (opens_covering shop_a).1

-- 8 with no open word doesn't, since a table ends at 7
pub nothing_open_at_8 : Covers shop_a 8 [] → ⊥
nothing_open_at_8 h = grind (arith, is_feasible)
