-- What `check_bytes` and `check_text` do.
use Rattle.std.specs.Prelude.{◌≡◌, ℕ, ◌⊎◌, ◌↔◌, Bool, IsTrue, List, Option, Some, None, Result, Ok, Err}
use Rattle.shop_model.specs.{Shop.{Shop, IsFeasible}, Checking.{HasShape, starts_of, IsVerdict}}
use Rattle.shop_model.specs.declared.checking.Verdict.{Verdict}
use Rattle.shop_text.specs.{Texts.NamedShop, Schedules.{IsTableRead, IsTableFault}, Writing.verdict_text}
use Rattle.shop_text.specs.{declared.faults.ReadFault.ReadFault, declared.formats.Format.Format}
use Rattle.shop_engine.specs.{declared.args.CheckArgs.CheckArgs, declared.faults.Fault.Fault}
use Rattle.shop_engine.specs.declared.faults.Fault.TheVariants.{NoMemory, WriteFailed}
use Rattle.shop_engine.specs.Devices.{Device, IsReadToEnd, IsUnread, IsSourceRefused, IsWritten, IsCutOff}
use Rattle.shop_engine.specs.{Faults.fault_of, Asking.{name_in, IsAsked, OfAsked, IsAskFault}}

-- The schedule text has a table, and the line says what a check of it finds.
pub record IsVerdictOn (shop : Shop) (schedule : List ℕ) (feasible : Bool) (line : List ℕ)
    : Type 0 where
  pub rows : List (List ℕ)
  pub is_table : IsTableRead shop schedule (Ok rows)
  pub verdict : Verdict
  pub is_verdict : IsVerdict shop rows verdict
  pub is_feasible : IsTrue feasible ↔ (HasShape shop rows × IsFeasible shop (starts_of rows))
  pub says : line ≡ verdict_text verdict

-- ---- over bytes

-- the schedule text: what is given, or else the instance text itself
abbrev pub schedule_in : List ℕ → Option (List ℕ) → List ℕ
schedule_in text None = text
schedule_in text (Some schedule) = schedule

-- the verdict on the schedule, for the instance that is asked for
abbrev pub IsCheckOf : Format → Option (List ℕ) → List ℕ → List ℕ → Bool → List ℕ → Type 0
IsCheckOf format name text schedule feasible line =
    OfAsked format name text (λ asked. IsVerdictOn asked.shop schedule feasible line)

-- there is no such instance, or the schedule text has this fault
abbrev pub IsCheckFault : Format → Option (List ℕ) → List ℕ → List ℕ → ReadFault → Type 0
IsCheckFault format name text schedule fault = IsAskFault format name text fault
    ⊎ OfAsked format name text (λ asked. IsTableFault asked.shop schedule fault)

-- ---- on devices

-- the source of the schedule, where there is one
abbrev pub Second : Type 0
Second = Option Device

-- The schedule is all that the second source has. Without one it is the instance text itself.
abbrev pub IsScheduleRead : List ℕ → Second → Second → List ℕ → Type 0
IsScheduleRead text None None schedule = schedule ≡ text
IsScheduleRead text None (Some new) schedule = ⊥
IsScheduleRead text (Some old) None schedule = ⊥
IsScheduleRead text (Some old) (Some new) schedule = IsReadToEnd old new schedule

-- The instance was read and picked, and what came after it holds of it and of the text.
pub record IsPicked (args : CheckArgs) (source source' : Device) (After : List ℕ → Shop → Type 0)
    : Type 0 where
  pub text : List ℕ
  pub read : IsReadToEnd source source' text
  pub asked : NamedShop
  pub is_asked : IsAsked args.format (name_in args.name) text asked
  pub after : After text asked.shop

-- The schedule was had and judged, and the line goes out.
pub record IsJudged (second second' : Second) (feasible : Bool) (Goes : List ℕ → Type 0)
    (text : List ℕ)
    (shop : Shop) : Type 0 where
  pub schedule : List ℕ
  pub schedule_read : IsScheduleRead text second second' schedule
  pub line : List ℕ
  pub judges : IsVerdictOn shop schedule feasible line
  pub out : Goes line

-- a schedule was judged, and the line goes out
abbrev pub Checks : CheckArgs → Device → Device → Second → Second → Bool → (List ℕ → Type 0) → Type 0
Checks args source source' second second' feasible Goes =
    IsPicked args source source' (IsJudged second second' feasible Goes)

-- it wasn't read to its end
abbrev pub IsSecondUnread : Second → Second → Fault → Type 0
IsSecondUnread None second' fault = ⊥
IsSecondUnread (Some old) None fault = ⊥
IsSecondUnread (Some old) (Some new) fault = IsUnread old new fault

-- The schedule is refused: that of the second source, or where there is none the instance text.
abbrev pub IsScheduleRefused : Second → Second → Fault → List ℕ → Shop → Type 0
IsScheduleRefused None None fault text shop = (fault ≡ NoMemory)
    ⊎ ((found : ReadFault) × IsTableFault shop text found × (fault ≡ fault_of found))
IsScheduleRefused None (Some new) fault text shop = ⊥
IsScheduleRefused (Some old) None fault text shop = ⊥
IsScheduleRefused (Some old) (Some new) fault text shop =
    IsSourceRefused old new (IsTableFault shop) fault

-- The second source is read only after an instance was picked. On success the sink took just the
-- line, and no device failed. A refusal is that of all bytes of its source; it and a failed read
-- leave the sink as it was, and so does a call that runs out of memory, where no device failed.
-- After a failed write the sink holds a beginning of the line.
abbrev pub IsChecking : CheckArgs → Device → Device → Second → Second → Device → Device → Result Bool Fault → Type 0
IsChecking args source source' second second' sink sink' (Ok feasible) =
    Checks args source source' second second' feasible (IsWritten sink sink')
IsChecking args source source' second second' sink sink' (Err fault) =
    (IsSourceRefused source source' (IsAskFault args.format (name_in args.name)) fault
    × (second' ≡ second) × (sink' ≡ sink))
    ⊎ (IsPicked args source source' (IsScheduleRefused second second' fault) × (sink' ≡ sink))
    ⊎ ((fault ≡ WriteFailed) × (feasible : Bool)
    × Checks args source source' second second' feasible (IsCutOff sink sink'))
