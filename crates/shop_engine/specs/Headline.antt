-- The headline of `solve`, in two clauses. For every accepted instance text and all arguments, with any crew of
-- workers, however their steps fall:
--     (a) right       what is written is a report on the instance that is asked for; its schedule is feasible and ends
--                     at its makespan, no feasible schedule ends before its bound, and where its status is optimal none
--                     ends before its makespan
--     (b) determined  it is the report of the one answer that the definition of the search gives, which knows no crew
-- Clause (a) rests on definitions of instances, schedules and texts, and on none of the search.
use Rattle.std.specs.Prelude.{◌≡◌, ℕ, ◌≤◌, ◌<◌, ◌^◌, Bool, List, ◌++◌, Option, Some, Result, IsOk}
use Rattle.shop_model.specs.{Shop.{Shop, Starts, IsFeasible, end_of}, Limits.AreStarts, Checking.{HasShape, starts_of}}
use Rattle.shop_text.specs.{Texts.NamedShop, Writing.{Reported, text_with_gantt}, declared.formats.Format.Format}
use Rattle.shop_runs.specs.{Round.Planned, Runs.planned}
use Rattle.shop_engine.specs.{declared.args.SolveArgs.SolveArgs, declared.faults.Fault.Fault, Asking.{name_in, OfAsked}}
use Rattle.shop_engine.specs.{Devices.Device, Answers.answer_of}

-- Its numbers are those that are printed: `decimal` prints each number below this limit in full.
pub record IsPrintable (r : Reported) : Type 0 where
  pub starts : AreStarts r.table
  pub makespan : r.makespan < 2 ^ 64
  pub bound : r.bound < 2 ^ 64
  pub open_nodes : r.open_nodes < 2 ^ 64
  pub rounds : r.rounds < 2 ^ 64
  pub nodes : r.nodes < 2 ^ 64

-- no feasible schedule ends before b
abbrev pub IsBound : Shop → ℕ → Type 0
IsBound shop b = (s : Starts) → IsFeasible shop s → b ≤ end_of shop s

-- (a) It is a report, with the Gantt text of its table behind it where that is asked for and else
-- nothing, and what it says is so.
pub record IsRight (asked : NamedShop) (gantt : Bool) (written : List ℕ) : Type 0 where
  pub report : Reported
  pub named : report.name ≡ asked.name
  pub on : report.shop ≡ asked.shop
  pub text : written ≡ text_with_gantt report gantt
  pub printable : IsPrintable report
  -- the schedule has a start for each operation, is feasible, and ends at the makespan
  pub shape : HasShape asked.shop report.table
  pub feasible : IsFeasible asked.shop (starts_of report.table)
  pub ends : end_of asked.shop (starts_of report.table) ≡ report.makespan
  -- no feasible schedule ends before the bound
  pub bound : IsBound asked.shop report.bound
  -- the status is optimal where no node is open; then none ends before the makespan
  pub optimal : report.open_nodes ≡ 0 → IsBound asked.shop report.makespan

-- (b) It is the report of the plan's answer.
abbrev pub IsDetermined : NamedShop → Planned → Bool → List ℕ → Type 0
IsDetermined asked plan gantt written = written ≡ text_with_gantt (answer_of asked plan) gantt

-- the same, of the instance that is asked for in a text
abbrev pub IsRightOf : Format → Option (List ℕ) → Bool → List ℕ → List ℕ → Type 0
IsRightOf format name gantt text written = OfAsked format name text (λ a. IsRight a gantt written)

abbrev pub IsDeterminedOf : SolveArgs → List ℕ → List ℕ → Type 0
IsDeterminedOf args text written = OfAsked args.format (name_in args.name) text
    (λ asked. IsDetermined asked (planned args.plan) args.gantt written)

-- the sink holds what it held, and then this
pub record HoldsThen (Written : List ℕ → Type 0) (held : List ℕ) (sink : Device) : Type 0 where
  pub written : List ℕ
  pub is_written : Written written
  pub holds : sink.bytes ≡ Some (held ++ written)

-- where the bytes of source and sink are known, and the call succeeds
abbrev pub WhereKnown : (List ℕ → List ℕ → Type 0) → Device → Device → Device → Result (Unit {0}) Fault → Type 0
WhereKnown Written source sink sink' result = (text held : List ℕ) → source.bytes ≡ Some text
    → sink.bytes ≡ Some held → IsOk result → HoldsThen (Written text) held sink'
