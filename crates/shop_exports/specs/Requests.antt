-- What a caller asks for, and the arguments that it makes.
use Rattle.std.specs.{Prelude.{◌≡◌, ◌≢◌, ℕ, ◌⊎◌, Bool, true, List, Option, Some, None, if◌then◌else◌}, Str.IsUtf8}
use Rattle.shop_text.specs.declared.formats.Format.TheVariants.{Orlib, Taillard, Routes}
use Rattle.shop_text.specs.{declared.faults.ReadFault.TheVariants.NoMemory, declared.formats.Format.Format}
use Rattle.shop_runs.specs.{Limits.IsPlanWithin, declared.plans.Plan.Plan, declared.plans.Order.Order}
use Rattle.shop_runs.specs.declared.plans.Order.TheVariants.{Kept, Bound}
use Rattle.shop_engine.specs.{Asking.name_in, declared.args.CheckArgs.CheckArgs, declared.args.SolveArgs.SolveArgs}
use Rattle.shop_exports.specs.{Outcomes.{is_refused, is_faulty}, declared.outcomes.CallResult.CallResult}
use Rattle.shop_exports.specs.declared.requests.Options.{Options}

-- the numbers of formats and orders
abbrev pub format_code : Format → ℕ
format_code Orlib = 0
format_code Taillard = 1
format_code Routes = 2

abbrev pub order_code : Order → ℕ
order_code Kept = 0
order_code Bound = 1

-- no format has this number
abbrev pub IsNoFormat : ℕ → Type 0
IsNoFormat code = (format : Format) → format_code format ≢ code

-- no order has this number
abbrev pub IsNoOrder : ℕ → Type 0
IsNoOrder code = (order : Order) → order_code order ≢ code

-- the bytes of a name or a schedule, if one is given
abbrev pub bytes_given : Bool → List ℕ → Option (List ℕ)
bytes_given is_given bytes = if is_given then Some bytes else None

-- a name is given whose bytes are no text
abbrev pub IsNoName : Bool → List ℕ → Type 0
IsNoName is_named name = (is_named ≡ true) × ¬ (IsUtf8 name)

-- the arguments of a check that is asked for
pub record AsksCheck (code : ℕ) (is_named : Bool) (name : List ℕ) (args : CheckArgs) : Type 0 where
  pub format : format_code args.format ≡ code
  pub named : name_in args.name ≡ bytes_given is_named name

-- no arguments are asked for: a number or a name is none
abbrev pub IsFaultyCheck : ℕ → Bool → List ℕ → Type 0
IsFaultyCheck code is_named name = IsNoFormat code ⊎ IsNoName is_named name

-- the plan has these numbers
pub record IsPlanOf (options : Options) (plan : Plan) : Type 0 where
  pub rounds : plan.rounds ≡ options.rounds
  pub budget : plan.budget ≡ options.budget
  pub piece : plan.piece ≡ options.piece
  pub order : order_code plan.order ≡ options.order

abbrev pub IsFaultyPlan : Options → Type 0
IsFaultyPlan options = IsNoOrder options.order ⊎ ¬ (IsPlanWithin options.rounds options.budget options.piece)

-- and those of a search
pub record AsksSolve (code : ℕ) (is_named : Bool) (name : List ℕ) (options : Options)
    (args : SolveArgs) : Type 0 where
  pub format : format_code args.format ≡ code
  pub named : name_in args.name ≡ bytes_given is_named name
  pub plan : IsPlanOf options args.plan
  pub gantt : args.gantt ≡ options.gantt

abbrev pub IsFaultySolve : ℕ → Bool → List ℕ → Options → Type 0
IsFaultySolve code is_named name options =
    IsFaultyCheck code is_named name ⊎ IsFaultyPlan options

-- what is asked for is faulty, or memory for the arguments ran out
abbrev pub IsUnasked : Type 0 → CallResult → Type 0
IsUnasked IsFaulty outcome = (IsFaulty × (outcome ≡ is_faulty)) ⊎ (outcome ≡ is_refused NoMemory)
