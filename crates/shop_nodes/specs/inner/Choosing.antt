-- The next operations of the jobs after a word, and the choice among them, job by job.
--     IsNext shop p j n            n is the next operation of job j: its machine, its head, and when it can end
--     IsNextIfAny shop w j result  the next operation of job j after w, or none where no step is left
--     is_in_conflict n chosen      n is the chosen one, or is on its machine and can begin before that can end
--     IsChoice shop p js chosen    the next operation of the chosen one of these jobs, or none where there is no job
--     placing_of placed            the placing of the word
--     IsChosen placed chosen       the choice among all jobs with steps left
--     conflicting_with placed c    the jobs whose next operations conflict with that of job c
use Rattle.std.specs.Prelude.{◌≡◌, ℕ, ◌≤◌, Bool, ◌==◌, ◌&&◌, ◌||◌, Option, Some, None, List, [], ◌∷◌, length, filter}
use Rattle.std.specs.Prelude.{nat_lt}
use Rattle.shop_model.specs.{Shop.{Shop, route_of, IsOperation}, Word.{Placing, placing}}
use Rattle.shop_nodes.specs.Branching.{open_jobs, next_machine, next_head, next_end, chosen_of, conflicts_with}
use Rattle.shop_nodes.specs.declared.conflicts.NextOperation.{NextOperation}
use Rattle.shop_nodes.specs.declared.conflicts.Placed.{Placed}

pub record IsNext (shop : Shop) (p : Placing) (j : ℕ) (n : NextOperation) : Type 0 where
  pub job : n.job ≡ j
  pub operation : IsOperation shop j (p.steps j)
  pub machine : n.machine ≡ next_machine shop p j
  pub head : n.head ≡ next_head shop p j
  pub end : n.end ≡ next_end shop p j

abbrev pub IsNextIfAny : Shop → List ℕ → ℕ → Option NextOperation → Type 0
IsNextIfAny shop w j None = length (route_of shop j) ≤ (placing shop w).steps j
IsNextIfAny shop w j (Some n) = IsNext shop (placing shop w) j n

abbrev pub is_in_conflict : NextOperation → NextOperation → Bool
is_in_conflict n chosen = n.job == chosen.job || (n.machine == chosen.machine && nat_lt n.head chosen.end)

abbrev pub IsChoice : Shop → Placing → List ℕ → Option NextOperation → Type 0
IsChoice shop p [] None = Unit {0}
IsChoice shop p [] (Some n) = ⊥
IsChoice shop p (j ∷ js) None = ⊥
IsChoice shop p (j ∷ js) (Some n) = IsNext shop p (chosen_of shop p j js) n

abbrev pub placing_of : Placed → Placing
placing_of placed = placing placed.instance.now placed.word.now

abbrev pub IsChosen : Placed → Option NextOperation → Type 0
IsChosen placed chosen =
    let shop = placed.instance.now
    in let p = placing_of placed in IsChoice shop p (open_jobs shop p) chosen

abbrev pub conflicting_with : Placed → ℕ → List ℕ
conflicting_with placed c =
    let shop = placed.instance.now
    in let p = placing_of placed in filter (conflicts_with shop p c) (open_jobs shop p)
