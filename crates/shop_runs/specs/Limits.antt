-- The limits of a plan, and of what a run counts.
use Rattle.std.specs.Prelude.{ℕ, ◌*◌, ◌≤◌}
use Rattle.shop_runs.specs.declared.plans.TheConstants.{MAX_BUDGET, MAX_PIECE, MAX_PIECES, MAX_ROUNDS}

-- 0 to 100,000 rounds, budgets from 1 to 10,000,000, pieces from 1 to 1,000
abbrev pub IsPlanWithin : ℕ → ℕ → ℕ → Type 0
IsPlanWithin rounds budget piece =
    (rounds ≤ MAX_ROUNDS) × (1 ≤ budget) × (budget ≤ MAX_BUDGET) × (1 ≤ piece) × (piece ≤ MAX_PIECE)

-- after these rounds: each piece of a round takes at most its budget
abbrev pub IsCountWithin : ℕ → ℕ → Type 0
IsCountWithin rounds nodes = (rounds ≤ MAX_ROUNDS) × (nodes ≤ rounds * (MAX_PIECES * MAX_BUDGET))
