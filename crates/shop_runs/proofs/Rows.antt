-- Worked answers, computed from the definitions.
use Rattle.std.proofs.Common.{◌≡◌, ℕ, List, [], ◌∷◌, refl, map, length}
use Rattle.shop_model.{proofs.Rows.{op, job, shop_a, shop_g}, specs.{Shop.{Shop, ShopJob}, Word.{placed, rows_of}}}
use Rattle.shop_model.specs.declared.ops.Op.{Op}
use Rattle.shop_nodes.proofs.Rows.{shop_z}
use Rattle.shop_runs.specs.{Answers.{answer, bound_of}, Plans.Planned, Round.makespan_of}
use Rattle.shop_runs.specs.declared.plans.Order.TheVariants.{Kept, Bound}

abbrev pub plan : ℕ → ℕ → Planned
plan rounds budget = record { rounds = rounds; budget = budget; piece = 1; order = Kept }

-- makespan, bound, open nodes, rounds, nodes
abbrev pub summary : Shop → Planned → List ℕ
summary shop p = let s = answer shop p
    in makespan_of shop s ∷ bound_of shop s ∷ length s.open_words ∷ s.rounds ∷ s.nodes ∷ []

-- the rows of the table
abbrev pub table : Shop → Planned → List (List ℕ)
table shop p = rows_of shop (placed shop (answer shop p).word)

pub crossing_whole : summary shop_a (plan 1 100) ≡ 7 ∷ 7 ∷ 0 ∷ 1 ∷ 6 ∷ []
crossing_whole = refl

pub crossing_no_round : summary shop_a (plan 0 100) ≡ 11 ∷ 7 ∷ 1 ∷ 0 ∷ 0 ∷ []
crossing_no_round = refl

pub crossing_table : table shop_a (plan 1 100) ≡ (0 ∷ 3 ∷ []) ∷ (0 ∷ 3 ∷ []) ∷ []
crossing_table = refl

pub crossing_start : table shop_a (plan 0 100) ≡ (0 ∷ 3 ∷ []) ∷ (5 ∷ 7 ∷ []) ∷ []
crossing_start = refl

pub crossing_five_nodes : summary shop_a (plan 1 5) ≡ 7 ∷ 7 ∷ 0 ∷ 1 ∷ 5 ∷ []
crossing_five_nodes = refl

pub crossing_one_node : summary shop_a (plan 1 1) ≡ 11 ∷ 7 ∷ 1 ∷ 1 ∷ 1 ∷ []
crossing_one_node = refl

pub zeros_whole : summary shop_z (plan 1 100) ≡ 5 ∷ 5 ∷ 0 ∷ 1 ∷ 8 ∷ []
zeros_whole = refl

pub zeros_table : table shop_z (plan 1 100) ≡ (0 ∷ 4 ∷ 5 ∷ []) ∷ (0 ∷ 0 ∷ 5 ∷ []) ∷ []
zeros_table = refl

pub gap_whole : summary shop_g (plan 1 100) ≡ 10 ∷ 10 ∷ 0 ∷ 1 ∷ 8 ∷ []
gap_whole = refl

pub gap_table : table shop_g (plan 1 100) ≡ (2 ∷ 7 ∷ 10 ∷ []) ∷ (0 ∷ 1 ∷ 2 ∷ []) ∷ []
gap_table = refl

pub gap_one_round : summary shop_g (plan 1 3) ≡ 16 ∷ 10 ∷ 2 ∷ 1 ∷ 3 ∷ []
gap_one_round = refl

pub gap_two_rounds : summary shop_g (plan 2 3) ≡ 16 ∷ 10 ∷ 3 ∷ 2 ∷ 9 ∷ []
gap_two_rounds = refl

pub gap_many_rounds : summary shop_g (plan 1000 3) ≡ 10 ∷ 10 ∷ 0 ∷ 3 ∷ 10 ∷ []
gap_many_rounds = refl

-- start words that end at their bound: nothing is open from the start
abbrev pub one_machine : Shop
one_machine = record { machines = 1; jobs = job (op 0 5 ∷ []) ∷ job (op 0 0 ∷ []) ∷ [] }

pub one_machine_row : summary one_machine (plan 1000 100000) ≡ 5 ∷ 5 ∷ 0 ∷ 0 ∷ 0 ∷ []
one_machine_row = refl

pub one_machine_table : table one_machine (plan 1000 100000) ≡ (0 ∷ []) ∷ (5 ∷ []) ∷ []
one_machine_table = refl

abbrev pub one_job : Shop
one_job = record { machines = 3; jobs = job (op 2 4 ∷ op 0 0 ∷ op 1 5 ∷ []) ∷ [] }

pub one_job_row : summary one_job (plan 1 1) ≡ 9 ∷ 9 ∷ 0 ∷ 0 ∷ 0 ∷ []
one_job_row = refl

pub one_job_table : table one_job (plan 1 1) ≡ (0 ∷ 4 ∷ 4 ∷ []) ∷ []
one_job_table = refl

abbrev pub no_time : Shop
no_time = record { machines = 1; jobs = job (op 0 0 ∷ []) ∷ [] }

pub no_time_row : summary no_time (plan 1 1) ≡ 0 ∷ 0 ∷ 0 ∷ 0 ∷ 0 ∷ []
no_time_row = refl

abbrev pub later_job : ℕ → List Op → ShopJob
later_job r ops = record { release = r; route = ops }

-- R: releases 0, 4 and 7, the last job without operations
abbrev pub shop_r : Shop
shop_r = record {
  machines = 2;
  jobs =
      job (op 0 3 ∷ op 1 2 ∷ []) ∷ later_job 4 (op 1 2 ∷ op 0 4 ∷ []) ∷ later_job 7 [] ∷ [];
}

pub released : summary shop_r (plan 1 100) ≡ 10 ∷ 10 ∷ 0 ∷ 1 ∷ 6 ∷ []
released = refl

pub released_no_round : summary shop_r (plan 0 100) ≡ 11 ∷ 10 ∷ 1 ∷ 0 ∷ 0 ∷ []
released_no_round = refl

pub released_table : table shop_r (plan 1 100) ≡ (0 ∷ 6 ∷ []) ∷ (4 ∷ 6 ∷ []) ∷ [] ∷ []
released_table = refl

-- H: the two orders find different tables
abbrev pub shop_h : Shop
shop_h = record {
  machines = 3;
  jobs =
      job (op 0 5 ∷ op 1 3 ∷ []) ∷ later_job 1 (op 0 1 ∷ op 2 6 ∷ []) ∷ job (op 1 1 ∷ []) ∷ job (op 1 1 ∷ []) ∷ [];
}

abbrev pub by_bound : ℕ → Planned
by_bound rounds = record { rounds = rounds; budget = 2; piece = 1; order = Bound }

pub orders_kept : map (λ n. summary shop_h (plan n 2)) (1 ∷ 2 ∷ 3 ∷ 4 ∷ []) ≡ (12 ∷ 9 ∷ 2 ∷ 1 ∷ 2 ∷ []) ∷
    (12 ∷ 10 ∷ 2 ∷ 2 ∷ 6 ∷ []) ∷ (12 ∷ 10 ∷ 2 ∷ 3 ∷ 10 ∷ []) ∷ (10 ∷ 10 ∷ 0 ∷ 4 ∷ 11 ∷ []) ∷ []
orders_kept = refl

pub orders_by_bound : map (λ n. summary shop_h (by_bound n)) (1 ∷ 2 ∷ 3 ∷ 4 ∷ []) ≡ (12 ∷ 9 ∷ 2 ∷ 1 ∷ 2 ∷ []) ∷
    (12 ∷ 10 ∷ 2 ∷ 2 ∷ 6 ∷ []) ∷ (12 ∷ 10 ∷ 2 ∷ 3 ∷ 10 ∷ []) ∷ (10 ∷ 10 ∷ 0 ∷ 4 ∷ 12 ∷ []) ∷ []
orders_by_bound = refl

pub kept_table : table shop_h (plan 4 2) ≡ (2 ∷ 7 ∷ []) ∷ (1 ∷ 2 ∷ []) ∷ (0 ∷ []) ∷ (1 ∷ []) ∷ []
kept_table = refl

pub by_bound_table : table shop_h (by_bound 4) ≡ (2 ∷ 7 ∷ []) ∷ (1 ∷ 2 ∷ []) ∷ (1 ∷ []) ∷ (0 ∷ []) ∷ []
by_bound_table = refl
