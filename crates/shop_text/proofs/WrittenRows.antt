-- Worked texts that are printed, computed byte for byte.
use Rattle.std.{proofs.Common.{◌≡◌, ℕ, List, [], ◌∷◌, ◌++◌, map, refl}, specs.{Prelude.codes, Fmt.digits}}
use Rattle.shop_model.specs.{declared.ops.{Op.Op, OperationId.OperationId}, Shop.{Shop, ShopJob}, Checking.starts_of}
use Rattle.shop_model.specs.declared.checking.Verdict.TheVariants.{Feasible, Unreleased, Early, Overlap}
use Rattle.shop_text.specs.Writing.{Reported, report_text, gantt_text, columns_of, unit_of, character_of, list_text}
use Rattle.shop_text.specs.Writing.{verdict_text}

abbrev pub op : ℕ → ℕ → Op
op m p = record { machine = m; time = p }

abbrev pub job : ℕ → List Op → ShopJob
job r ops = record { release = r; route = ops }

-- ---- two jobs that cross

abbrev pub crossing : Shop
crossing = record { machines = 2; jobs = job 0 (op 0 3 ∷ op 1 2 ∷ []) ∷ job 0 (op 1 2 ∷ op 0 4 ∷ []) ∷ [] }

abbrev pub crossing_rows : List (List ℕ)
crossing_rows = (0 ∷ 3 ∷ []) ∷ (0 ∷ 3 ∷ []) ∷ []

abbrev pub crossing_report : Reported
crossing_report = record {
  name = codes "1";
  shop = crossing;
  table = crossing_rows;
  makespan = 7;
  bound = 7;
  open_nodes = 0;
  rounds = 1;
  nodes = 6;
}

crossing_text : report_text crossing_report
    ≡ codes "instance 1\nsize 2 2\nmakespan 7\nbound 7\nstatus optimal\nopen 0\n"
    ++ codes "rounds 1\nnodes 6\njob 0: 0 3\njob 1: 0 3\n"
unfolding digits
crossing_text = refl

crossing_gantt : gantt_text crossing (starts_of crossing_rows)
    ≡ codes "unit 1\nmachine 0 |0001111|\nmachine 1 |11.00..|\n" ++ codes ""
unfolding digits
crossing_gantt = refl

-- ---- jobs with a gap, on three machines

abbrev gap : Shop
gap = record {
  machines =
      3;
  jobs = job 0 (op 0 5 ∷ op 1 3 ∷ op 2 0 ∷ []) ∷ job 0 (op 1 1 ∷ op 0 1 ∷ op 2 6 ∷ []) ∷ [];
}

-- (an operation of time 0 never shows)
gap_gantt : gantt_text gap (starts_of ((2 ∷ 7 ∷ 10 ∷ []) ∷ (0 ∷ 1 ∷ 2 ∷ []) ∷ []))
    ≡ codes "unit 1\nmachine 0 |.100000...|\nmachine 1 |1......000|\nmachine 2 |..111111..|\n"
unfolding digits
gap_gantt = refl

-- ---- releases, and a job without operations

abbrev released : Shop
released = record { machines = 2; jobs = job 0 (op 0 3 ∷ op 1 2 ∷ []) ∷ job 4 (op 1 2 ∷ op 0 4 ∷ []) ∷ job 7 [] ∷ [] }

abbrev released_rows : List (List ℕ)
released_rows = (0 ∷ 6 ∷ []) ∷ (4 ∷ 6 ∷ []) ∷ [] ∷ []

abbrev released_report : Reported
released_report = record {
  name = codes "1";
  shop = released;
  table = released_rows;
  makespan = 10;
  bound = 10;
  open_nodes = 0;
  rounds = 1;
  nodes = 6;
}

released_text : report_text released_report
    ≡ codes "instance 1\nsize 3 2\nmakespan 10\nbound 10\nstatus optimal\nopen 0\n"
    ++ codes "rounds 1\nnodes 6\njob 0: 0 6\njob 1: 4 6\njob 2:\n"
unfolding digits
released_text = refl

released_gantt : gantt_text released (starts_of released_rows)
    ≡ codes "unit 1\nmachine 0 |000...1111|\nmachine 1 |....1100..|\n" ++ codes ""
unfolding digits
released_gantt = refl

-- ---- nothing to show

nothing_gantt : gantt_text (record { machines = 1; jobs = job 0 (op 0 0 ∷ []) ∷ [] }) (starts_of ((0 ∷ []) ∷ []))
    ≡ codes "unit 1\nmachine 0 ||\n" ++ codes ""
unfolding digits
nothing_gantt = refl

-- an open answer
open_text : report_text (record {
  name = codes "f" ++ codes "t06";
  shop = record { machines = 1; jobs = [] };
  table = [];
  makespan = 152;
  bound = 52;
  open_nodes =
      1;
  rounds = 0;
  nodes = 0;
}) ≡ codes "instance ft06\nsize 0 1\nmakespan 152\nbound 52\nstatus open\nopen 1\nrounds 0\nnodes 0\n"
unfolding digits
open_text = refl

-- ---- the unit, rounded up, and the columns

units : map unit_of (0 ∷ 1 ∷ 72 ∷ 73 ∷ 144 ∷ 145 ∷ 200000000 ∷ 1000000000000 ∷ [])
    ≡ 1 ∷ 1 ∷ 1 ∷ 2 ∷ 2 ∷ 3 ∷ 2777778 ∷ 13888888889 ∷ []
units = refl

numbers_of_columns : map columns_of (0 ∷ 1 ∷ 72 ∷ 73 ∷ 145 ∷ 200000000 ∷ 1000000000000 ∷ [])
    ≡ 0 ∷ 1 ∷ 72 ∷ 37 ∷ 49 ∷ 72 ∷ 72 ∷ []
numbers_of_columns = refl

characters : map character_of (0 ∷ 9 ∷ 10 ∷ 35 ∷ 36 ∷ 61 ∷ 62 ∷ 999 ∷ []) ≡ codes "09AZaz##"
characters = refl

-- ---- lists and verdicts

two_instances : list_text (record { name = codes "alpha"; shop = crossing } ∷ record { name = codes "gap"; shop = gap }
    ∷ []) ≡ codes "alpha 2 2\ngap 2 3\n" ++ codes ""
unfolding digits
two_instances = refl

feasible_text : verdict_text (Feasible 7) ≡ codes "feasible 7\n"
unfolding digits
feasible_text = refl

abbrev at : ℕ → ℕ → OperationId
at j k = record { job = j; step = k }

overlap_text : verdict_text (Overlap 0 (at 0 0) (at 1 1))
    ≡ codes "infeasible: machine 0 overlap of job 0 step 0 and job 1 step 1\n" ++ codes ""
unfolding digits
overlap_text = refl

early_text : verdict_text (Early 1 2) ≡ codes "infeasible: job 1 step 2 begins before step 1 ends\n"
unfolding digits
early_text = refl

unreleased_text : verdict_text (Unreleased 1) ≡ codes "infeasible: job 1 step 0 begins before its release\n"
unfolding digits
unreleased_text = refl
