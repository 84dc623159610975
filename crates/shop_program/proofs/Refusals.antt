-- Rows of clap's matches that give no plan, and those that give no arguments.
use Rattle.std.proofs.Common.{◌≡◌, ℕ, ap, arith, codes, get_or, nat_eq, true≢false, List, ◌<◌, ◌≤◌, ◌^◌}
use Rattle.clap.specs.Words.{Row, Text}
use Rattle.shop_runs.specs.declared.plans.Plan.{Plan}
use Rattle.shop_program.specs.{CommandLine.{HasNumber, HasPlan, IsArgs}, declared.arguments.Args.Args}
use Rattle.shop_program.specs.declared.arguments.Args.TheVariants.{List as ListNames, Check, Solve}

abbrev pub NoNumber : List Row → Text → Type 0
NoNumber rows id = (n : ℕ) → n < 2 ^ 64 → HasNumber rows id n → ⊥

abbrev pub NoPlan : List Row → Type 0
NoPlan rows = (plan : Plan) → HasPlan rows plan → ⊥

pub no_rounds : (rows : List Row) → NoNumber rows (codes "rounds") → NoPlan rows
no_rounds rows none plan has =
    let most : plan.rounds ≤ 100000 = has.within.0 in none plan.rounds (omega arith) has.rounds

pub no_budget : (rows : List Row) → NoNumber rows (codes "budget") → NoPlan rows
no_budget rows none plan has =
    let most : plan.budget ≤ 10000000 = has.within.2 in none plan.budget (omega arith) has.budget

pub no_piece : (rows : List Row) → NoNumber rows (codes "piece") → NoPlan rows
no_piece rows none plan has =
    let most : plan.piece ≤ 1000 = has.within.4 in none plan.piece (omega arith) has.piece

abbrev pub NoArgs : Text → List Row → Type 0
NoArgs name rows = (args : Args) → IsArgs name rows args → ⊥

pub no_workers : (rows : List Row) → NoNumber rows (codes "workers") → NoArgs (codes "solve") rows
no_workers rows none (ListNames args file) has =
    absurd (true≢false (ap (λ (t : Text). nat_eq (get_or t 0 0) 115) has.0))
no_workers rows none (Check args file schedule) has =
    absurd (true≢false (ap (λ (t : Text). nat_eq (get_or t 0 0) 115) has.0))
no_workers rows none (Solve args workers file) has =
    let most : workers.count ≤ 64 = has.6 in none workers.count (omega arith) has.4

-- a name that is of no command
pub no_command : (name : Text) (rows : List Row) → (name ≡ codes "list" → ⊥) → (name ≡ codes "check" → ⊥)
    → (name ≡ codes "solve" → ⊥) → NoArgs name rows
no_command name rows list check solve (ListNames args file) has = list has.0
no_command name rows list check solve (Check args file schedule) has = check has.0
no_command name rows list check solve (Solve args workers file) has = solve has.0
