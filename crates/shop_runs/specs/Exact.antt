-- A search is exact: with enough rounds it ends, and with more rounds its makespan is no greater.
use Rattle.std.specs.Prelude.{◌≡◌, ℕ, ◌≤◌, []}
use Rattle.shop_model.specs.Shop.{Shop, IsLeast}
use Rattle.shop_runs.specs.{Plans.Planned, Round.{Stand, makespan_of}, Answers.answer}

-- the plan, with n rounds
abbrev pub with_rounds : Planned → ℕ → Planned
with_rounds plan n = record plan { rounds = n }

-- no word is open, and the makespan is least
abbrev pub IsSolved : Shop → Stand → Type 0
IsSolved shop s = (s.open_words ≡ []) × IsLeast shop (makespan_of shop s)

-- For each instance, budget, piece size and order there is a number of rounds from which on the
-- answer is solved, where a budget and a piece are of one node at least.
abbrev pub SearchesEnd : Type 0
SearchesEnd = (shop : Shop) (plan : Planned) → 1 ≤ plan.budget → 1 ≤ plan.piece
    → (enough : ℕ) × ((n : ℕ) → enough ≤ n → IsSolved shop (answer shop (with_rounds plan n)))

-- more rounds never end at a greater makespan
abbrev pub MoreRoundsAreNoWorse : Type 0
MoreRoundsAreNoWorse = (shop : Shop) (plan : Planned) (n m : ℕ) → n ≤ m
    → makespan_of shop (answer shop (with_rounds plan m)) ≤ makespan_of shop (answer shop (with_rounds plan n))

-- once no word is open, further rounds change nothing
abbrev pub SolvedStays : Type 0
SolvedStays = (shop : Shop) (plan : Planned) (n m : ℕ) → n ≤ m → (answer shop (with_rounds plan n)).open_words ≡ []
    → answer shop (with_rounds plan m) ≡ answer shop (with_rounds plan n)
