-- Worked rows of the laws, computed from the definitions.
use Rattle.std.proofs.Common.{◌≡◌, ℕ, zero, suc, ◌+◌, ◌≤◌, List, [], ◌∷◌, refl, arith, lit<}
use Rattle.std.specs.Prelude.{true, false, None, codes}
use Rattle.shop_model.specs.{Checking.{HasShape, starts_of}, declared.checking.Verdict.TheVariants.Feasible}
use Rattle.shop_model.specs.Shop.{Shop, release_of, IsFeasible, IsLeast}
use Rattle.shop_model.proofs.{Deciding.{shape_by_test, feasible_by_test}, Rows.{op, job, shop_a}}
use Rattle.shop_text.specs.{Schedules.IsTable, Writing.{Reported, verdict_text, text_with_gantt}}
use Rattle.shop_text.{specs.declared.formats.Format.TheVariants.Orlib, proofs.TableRows.table_within}
use Rattle.shop_runs.proofs.{Trusting.trustworthy, Rows.plan, CoverRows.least_7}
use Rattle.shop_engine.specs.{Answers.answer_of, Easier.AskTheSame, Reversing.reversed, Scaling.scaled}
use Rattle.shop_engine.specs.{Checking.IsCheckOf, Headline.IsRightOf, WholeRun.crossing_text}
use Rattle.shop_engine.proofs.{Comparing.easier_instances_end_no_later, Relaxing.relaxations_ask_no_more}
use Rattle.shop_engine.proofs.{Renaming.renaming_asks_the_same, Reversing.reversing_asks_the_same}
use Rattle.shop_engine.proofs.{Scaling.scaling_keeps_the_least, MetBounds.met_bounds_are_least}
use Rattle.shop_engine.proofs.{Optima.optimal_where_bound_is_makespan, WholeRun.{crossing, asked}}

-- makespan, bound, open nodes
abbrev summary : Reported → List ℕ
summary r = r.makespan ∷ r.bound ∷ r.open_nodes ∷ []

-- ---- optimal just where bound and makespan are one number

pub solved : summary (answer_of crossing (plan 1 100)) ≡ 7 ∷ 7 ∷ 0 ∷ []
solved = refl

pub solved_by_law : (answer_of crossing (plan 1 100)).open_nodes ≡ 0
solved_by_law = (optimal_where_bound_is_makespan crossing (plan 1 100)).1 refl

pub unsolved : summary (answer_of crossing (plan 0 100)) ≡ 11 ∷ 7 ∷ 1 ∷ []
unsolved = refl

-- ---- a report that is open, with bound 7, and a schedule that `check` finds feasible at 7

abbrev open_report : Reported
open_report = answer_of crossing (plan 0 100)

open_table : IsTable shop_a (codes "job 0: 0 3\njob 1: 5 7\n") open_report.table
open_table = record { short = omega arith; lines = refl; jobs = refl }

open_is_right : IsRightOf Orlib None false crossing_text (text_with_gantt open_report false)
open_is_right = record {
  asked = crossing;
  is_asked = asked;
  says = record {
    report = open_report;
    named = refl;
    on = refl;
    text = refl;
    printable = record {
      starts = table_within shop_a (codes "job 0: 0 3\njob 1: 5 7\n") open_report.table open_table;
      makespan = lit< tt;
      bound = lit< tt;
      open_nodes = lit< tt;
      rounds = lit< tt;
      nodes = lit< tt;
    };
    shape = shape_by_test shop_a open_report.table refl;
    feasible = feasible_by_test shop_a (starts_of open_report.table) refl refl;
    ends = refl;
    bound = (trustworthy shop_a (plan 0 100)).bound;
    optimal = λ none. ((trustworthy shop_a (plan 0 100)).least none).least;
  };
}

abbrev best_rows : List (List ℕ)
best_rows = (0 ∷ 3 ∷ []) ∷ (0 ∷ 3 ∷ []) ∷ []

best_shape : HasShape shop_a best_rows
best_shape = shape_by_test shop_a best_rows refl

best_feasible : IsFeasible shop_a (starts_of best_rows)
best_feasible = feasible_by_test shop_a (starts_of best_rows) refl refl

-- the schedule stands in the instance text itself
best_is_checked : IsCheckOf Orlib None crossing_text crossing_text true (verdict_text (Feasible 7))
best_is_checked = record {
  asked = crossing;
  is_asked = asked;
  says = record {
    rows = best_rows;
    is_table = record { short = omega arith; lines = refl; jobs = refl };
    verdict = Feasible 7;
    is_verdict = (best_shape, best_feasible, refl);
    is_feasible = (λ found. (best_shape, best_feasible), λ found. refl);
    says = refl;
  };
}

pub met_is_least : IsLeast shop_a 7
unfolding open_is_right
met_is_least = met_bounds_are_least.checked Orlib None crossing_text crossing_text (verdict_text (Feasible 7)) true 7
    best_is_checked refl false (text_with_gantt open_report false) open_is_right refl

-- ---- instances of which the least makespan is that of A, 7

abbrev same_as_a : (other : Shop) → AskTheSame shop_a other → IsLeast other 7
same_as_a other same = (easier_instances_end_no_later.same_least shop_a other same 7).0 least_7

abbrev reversed_a : Shop
reversed_a = record {
  machines = 2;
  jobs = job (op 1 2 ∷ op 0 3 ∷ []) ∷ job (op 0 4 ∷ op 1 2 ∷ []) ∷ [];
}

reversed_is : reversed shop_a ≡ reversed_a
reversed_is = refl

no_releases : (j : ℕ) → release_of shop_a j ≡ 0
no_releases zero = refl
no_releases (suc zero) = refl
no_releases (suc (suc j)) = refl

pub reversed_least : IsLeast reversed_a 7
reversed_least = same_as_a reversed_a (reversing_asks_the_same shop_a no_releases)

abbrev renamed_a : Shop
renamed_a = record {
  machines = 2;
  jobs = job (op 8 3 ∷ op 9 2 ∷ []) ∷ job (op 9 2 ∷ op 8 4 ∷ []) ∷ [];
}

pub renamed_least : IsLeast renamed_a 7
renamed_least = same_as_a renamed_a (renaming_asks_the_same.machines (λ m. m + 8) (λ m n e. omega arith) shop_a)

-- ---- and those that ask for less: the first job alone, and A without the first step of job 1

abbrev first_job : Shop
first_job = record { machines = 2; jobs = job (op 0 3 ∷ op 1 2 ∷ []) ∷ [] }

pub first_job_no_later : (c : ℕ) → IsLeast first_job c → c ≤ 7
first_job_no_later c least =
    grind (arith, easier_instances_end_no_later, shop_a, relaxations_ask_no_more, job, op, least_7)

abbrev shorter : Shop
shorter = record { machines = 2; jobs = job (op 0 3 ∷ op 1 2 ∷ []) ∷ job (op 0 4 ∷ []) ∷ [] }

pub shorter_no_later : (c : ℕ) → IsLeast shorter c → c ≤ 7
shorter_no_later c least = easier_instances_end_no_later.least shorter shop_a
    (relaxations_ask_no_more.relaxed shorter shop_a
    (relaxations_ask_no_more.step_left_out 2 0 (job (op 0 3 ∷ op 1 2 ∷ []) ∷ []) [] [] (op 0 4 ∷ []) (op 1 2)))
    c 7 least least_7

-- ---- a unit of time that is ten times finer

abbrev scaled_a : Shop
scaled_a = record {
  machines = 2;
  jobs = job (op 0 30 ∷ op 1 20 ∷ []) ∷ job (op 1 20 ∷ op 0 40 ∷ []) ∷ [];
}

scaled_is : scaled 10 shop_a ≡ scaled_a
scaled_is = refl

pub scaled_least : IsLeast scaled_a 70
scaled_least = (scaling_keeps_the_least.least 10 shop_a 7 (lit< tt)).0 least_7
