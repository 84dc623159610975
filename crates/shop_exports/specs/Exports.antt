-- What the calls of C do: each has the theorem of the engine's call that it makes.
use Rattle.std.specs.Prelude.{◌≡◌, ℕ, ◌⊎◌, Bool, false, List, Option}
use Rattle.shop_text.specs.{Formats.grammar_of, Texts.{IsTextFault, OrNoMemory}, declared.formats.Format.Format}
use Rattle.shop_text.specs.declared.faults.ReadFault.{ReadFault}
use Rattle.shop_engine.specs.{Checking.{schedule_in, IsCheckOf, IsCheckFault}, declared.args.CheckArgs.CheckArgs}
use Rattle.shop_engine.specs.{declared.args.SolveArgs.SolveArgs, SolvedSchedules.PassesCheck}
use Rattle.shop_engine.specs.{Asking.{name_in, IsAskFault}, Solving.IsSolution, Listing.IsListOf}
use Rattle.shop_exports.specs.{Outcomes.{is_refused, is_faulty, IsGiven}, Requests.{format_code, IsNoFormat, IsUnasked}}
use Rattle.shop_exports.specs.Requests.{AsksCheck, IsFaultyCheck, AsksSolve, IsFaultySolve}
use Rattle.shop_exports.specs.{declared.outcomes.CallResult.CallResult, declared.requests.Options.Options}

-- a text is given, of which this holds
pub record IsServed (Is : Bool → List ℕ → Type 0) (room room' : List ℕ) (outcome : CallResult)
    : Type 0 where
  pub feasible : Bool
  pub text : List ℕ
  pub is_text : Is feasible text
  pub given : IsGiven feasible text room room' outcome

-- the call is refused by this fault, and nothing is written
pub record IsRefused (IsBad : ReadFault → Type 0) (room room' : List ℕ) (outcome : CallResult)
    : Type 0 where
  pub fault : ReadFault
  pub is_bad : IsBad fault
  pub told : outcome ≡ is_refused fault
  pub kept : room' ≡ room

abbrev pub Serves : (Bool → List ℕ → Type 0) → (ReadFault → Type 0) → List ℕ → List ℕ → CallResult → Type 0
Serves Is IsBad room room' outcome =
    IsServed Is room room' outcome ⊎ IsRefused IsBad room room' outcome

-- no arguments are made, and nothing is written
pub record IsUnserved (IsFaulty : Type 0) (room room' : List ℕ) (outcome : CallResult) : Type 0 where
  pub unasked : IsUnasked IsFaulty outcome
  pub kept : room' ≡ room

-- ---- the calls

-- the list of the text's instances, in the format of this number
abbrev pub ListsFor : ℕ → List ℕ → List ℕ → List ℕ → CallResult → Type 0
ListsFor code text room room' outcome =
    (IsNoFormat code × (outcome ≡ is_faulty) × (room' ≡ room))
    ⊎ ((format : Format) × (format_code format ≡ code)
    × Serves (λ feasible out. (feasible ≡ false) × IsListOf format text out)
    (OrNoMemory (IsTextFault (grammar_of format)) text) room room' outcome)

-- the line of the verdict on the schedule, and whether it is feasible
abbrev pub ChecksWith : CheckArgs → List ℕ → List ℕ → List ℕ → Option (List ℕ) → CallResult → Type 0
ChecksWith args text room room' schedule outcome =
    Serves (IsCheckOf args.format (name_in args.name) text (schedule_in text schedule))
    (OrNoMemory (λ bytes. IsCheckFault args.format (name_in args.name) bytes
    (schedule_in bytes schedule)) text) room room' outcome

abbrev pub ChecksFor : ℕ → Bool → List ℕ → List ℕ → Option (List ℕ) → List ℕ → List ℕ → CallResult → Type 0
ChecksFor code is_named name text schedule room room' outcome =
    IsUnserved (IsFaultyCheck code is_named name) room room' outcome
    ⊎ ((args : CheckArgs) × AsksCheck code is_named name args
    × ChecksWith args text room room' schedule outcome)

-- the report: it is right, it is the one of the plan, and a check finds its schedule feasible
pub record IsReport (args : SolveArgs) (text : List ℕ) (feasible : Bool) (written : List ℕ)
    : Type 0 where
  pub no_verdict : feasible ≡ false
  pub solution : IsSolution args text written
  pub schedule : PassesCheck args.format (name_in args.name) text written

abbrev pub SolvesWith : SolveArgs → List ℕ → List ℕ → List ℕ → CallResult → Type 0
SolvesWith args text room room' outcome = Serves (IsReport args text)
    (OrNoMemory (IsAskFault args.format (name_in args.name)) text) room room' outcome

abbrev pub SolvesFor : ℕ → Bool → List ℕ → Options → List ℕ → List ℕ → List ℕ → CallResult → Type 0
SolvesFor code is_named name options text room room' outcome =
    IsUnserved (IsFaultySolve code is_named name options) room room' outcome
    ⊎ ((args : SolveArgs) × AsksSolve code is_named name options args
    × SolvesWith args text room room' outcome)
