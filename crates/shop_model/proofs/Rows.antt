-- Worked rows, computed from the definitions.
use Rattle.std.proofs.Common.{◌≡◌, ℕ, List, [], ◌∷◌, refl, arith, lit<}
use Rattle.shop_model.specs.declared.{ops.{Op.Op, OperationId.OperationId}, checking.Verdict.TheVariants.Feasible}
use Rattle.shop_model.specs.{declared.checking.Verdict.TheVariants.{WrongSize, Unreleased, Early, Overlap}, Shop.Shop}
use Rattle.shop_model.specs.{Shop.{ShopJob, end_of, IsFeasible}, Word.{placed, rows_of, start_jobs}, Checking.starts_of}
use Rattle.shop_model.{specs.Checking.IsVerdict, proofs.Deciding.{shape_by_test, in_time_by_test, feasible_by_test}}
use Rattle.shop_model.proofs.Deciding.{first_early_by_test}

abbrev pub op : ℕ → ℕ → Op
op m p = record { machine = m; time = p }

abbrev pub job : List Op → ShopJob
job r = record { release = 0; route = r }

abbrev pub at : ℕ → ℕ → OperationId
at j k = record { job = j; step = k }

-- A: two jobs that cross, `2 2` / `0 3 1 2` / `1 2 0 4`
abbrev pub shop_a : Shop
shop_a = record { machines = 2; jobs = job (op 0 3 ∷ op 1 2 ∷ []) ∷ job (op 1 2 ∷ op 0 4 ∷ []) ∷ [] }

-- G: an operation of time 0, `2 3` / `0 5 1 3 2 0` / `1 1 0 1 2 6`
abbrev pub shop_g : Shop
shop_g = record { machines = 3; jobs = job (op 0 5 ∷ op 1 3 ∷ op 2 0 ∷ []) ∷ job (op 1 1 ∷ op 0 1 ∷ op 2 6 ∷ []) ∷ [] }

-- Z: more of them, `2 3` / `0 4 1 1 2 0` / `1 0 2 5 0 0`
abbrev pub shop_z : Shop
shop_z = record { machines = 3; jobs = job (op 0 4 ∷ op 1 1 ∷ op 2 0 ∷ []) ∷ job (op 1 0 ∷ op 2 5 ∷ op 0 0 ∷ []) ∷ [] }

-- three jobs on one machine, `3 1` / `0 2` / `0 1` / `0 2`
abbrev pub shop_three : Shop
shop_three = record { machines = 1; jobs = job (op 0 2 ∷ []) ∷ job (op 0 1 ∷ []) ∷ job (op 0 2 ∷ []) ∷ [] }

-- R: a release, and a job without operations, `3 2` / `0 0 3 1 2` / `4 1 2 0 4` / `7`
abbrev pub shop_r : Shop
shop_r = record {
  machines = 2;
  jobs = job (op 0 3 ∷ op 1 2 ∷ []) ∷ record { release = 4; route = op 1 2 ∷ op 0 4 ∷ [] } ∷ record {
    release = 7;
    route = [];
  } ∷ [];
}

-- placing
pub start_ends : end_of shop_a (placed shop_a (0 ∷ 0 ∷ 1 ∷ 1 ∷ [])) ≡ 11
start_ends = refl

pub best_ends : end_of shop_a (placed shop_a (1 ∷ 0 ∷ 0 ∷ 1 ∷ [])) ≡ 7
best_ends = refl

pub start_ends_g : end_of shop_g (placed shop_g (0 ∷ 0 ∷ 0 ∷ 1 ∷ 1 ∷ 1 ∷ [])) ≡ 16
start_ends_g = refl

start_word_a : start_jobs shop_a ≡ 0 ∷ 0 ∷ 1 ∷ 1 ∷ []
start_word_a = refl

start_rows_a : rows_of shop_a (placed shop_a (start_jobs shop_a)) ≡ (0 ∷ 3 ∷ []) ∷ (5 ∷ 7 ∷ []) ∷ []
start_rows_a = refl

best_rows_a : rows_of shop_a (placed shop_a (1 ∷ 0 ∷ 0 ∷ 1 ∷ [])) ≡ (0 ∷ 3 ∷ []) ∷ (0 ∷ 3 ∷ []) ∷ []
best_rows_a = refl

best_rows_g : rows_of shop_g (placed shop_g (1 ∷ 1 ∷ 0 ∷ 1 ∷ 0 ∷ 0 ∷ [])) ≡ (2 ∷ 7 ∷ 10 ∷ []) ∷ (0 ∷ 1 ∷ 2 ∷ []) ∷ []
best_rows_g = refl

best_rows_r : rows_of shop_r (placed shop_r (0 ∷ 1 ∷ 1 ∷ 0 ∷ [])) ≡ (0 ∷ 6 ∷ []) ∷ (4 ∷ 6 ∷ []) ∷ [] ∷ []
best_rows_r = refl

start_ends_r : end_of shop_r (placed shop_r (start_jobs shop_r)) ≡ 11
start_ends_r = refl

-- verdicts
two_jobs_that_cross : IsVerdict shop_a ((0 ∷ 3 ∷ []) ∷ (0 ∷ 3 ∷ []) ∷ []) (Feasible 7)
two_jobs_that_cross = (shape_by_test shop_a _ refl, feasible_by_test shop_a _ refl refl, refl)

two_jobs_that_overlap : IsVerdict shop_a ((0 ∷ 3 ∷ []) ∷ (0 ∷ 2 ∷ []) ∷ []) (Overlap 0 (at 0 0) (at 1 1))
two_jobs_that_overlap = grind (arith, shape_by_test, in_time_by_test)

a_start_too_few : IsVerdict shop_a ((0 ∷ 3 ∷ []) ∷ (0 ∷ []) ∷ []) WrongSize
a_start_too_few shape = absurd (let e = shape.steps 1 in omega arith)

times_of_zero : IsFeasible shop_z (starts_of ((0 ∷ 4 ∷ 5 ∷ []) ∷ (0 ∷ 0 ∷ 5 ∷ []) ∷ []))
times_of_zero = feasible_by_test shop_z _ refl refl

a_step_before_its_turn : IsVerdict shop_z ((0 ∷ 4 ∷ 5 ∷ []) ∷ (0 ∷ 0 ∷ 3 ∷ []) ∷ []) (Early 1 2)
a_step_before_its_turn = grind (arith, shape_by_test, first_early_by_test)

time_zero_strictly_inside : IsVerdict shop_g ((2 ∷ 7 ∷ 10 ∷ []) ∷ (0 ∷ 1 ∷ 5 ∷ []) ∷ []) (Overlap 2 (at 0 2) (at 1 2))
time_zero_strictly_inside = grind (arith, shape_by_test, in_time_by_test)

the_first_and_the_last_of_three : IsVerdict shop_three ((0 ∷ []) ∷ (5 ∷ []) ∷ (1 ∷ []) ∷ [])
    (Overlap 0 (at 0 0) (at 2 0))
the_first_and_the_last_of_three = grind (arith, shape_by_test, in_time_by_test)

before_its_release : IsVerdict shop_r ((0 ∷ 6 ∷ []) ∷ (3 ∷ 6 ∷ []) ∷ [] ∷ []) (Unreleased 1)
before_its_release = (shape_by_test shop_r _ refl, first_early_by_test shop_r _ 1 0 (lit< tt) (lit< tt) refl)

after_its_release : IsVerdict shop_r ((0 ∷ 6 ∷ []) ∷ (4 ∷ 6 ∷ []) ∷ [] ∷ []) (Feasible 10)
after_its_release = (shape_by_test shop_r _ refl, feasible_by_test shop_r _ refl refl, refl)
