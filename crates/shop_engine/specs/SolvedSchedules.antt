-- What `solve` writes is a schedule text that `check` finds feasible.
use Rattle.std.specs.{Prelude.{◌≡◌, ℕ, ◌≤◌, Bool, IsTrue, List, ◌++◌, length, Option}, List.list_all}
use Rattle.shop_model.specs.{Checking.EndsAt, declared.checking.Verdict.TheVariants.Feasible}
use Rattle.shop_text.specs.{Formats.is_visible, Schedules.IsTable, Texts.NamedShop}
use Rattle.shop_text.specs.{Writing.{Reported, report_text, verdict_text}, declared.limits.TheConstants.MAX_TEXT}
use Rattle.shop_text.specs.{declared.faults.ReadFault.ReadFault, declared.formats.Format.Format}
use Rattle.shop_engine.specs.Checking.{IsCheckOf, IsCheckFault}

-- It begins with a report; read as a schedule of the instance it gives the report's table, which is
-- feasible and ends at the report's makespan.
pub record IsScheduleOf (asked : NamedShop) (written : List ℕ) : Type 0 where
  pub report : Reported
  pub rest : List ℕ
  pub begins : written ≡ report_text report ++ rest
  pub is_table : IsTable asked.shop written report.table
  pub ends : EndsAt asked.shop report.table report.makespan

-- no text of more than `MAX_TEXT` bytes is read; a name that readers give has visible bytes alone
abbrev pub GivesSchedule : NamedShop → List ℕ → Type 0
GivesSchedule asked written = IsTrue (list_all is_visible asked.name) → length written ≤ MAX_TEXT
    → IsScheduleOf asked written

-- unless memory runs out, `check_bytes` answers on this instance text and this schedule text that
-- the schedule is feasible, with the line that names the report's makespan
pub record IsFoundFeasible (format : Format) (name : Option (List ℕ)) (text written : List ℕ)
    : Type 0 where
  pub report : Reported
  pub rest : List ℕ
  pub begins : written ≡ report_text report ++ rest
  pub feasible : (feasible : Bool) (line : List ℕ)
      → IsCheckOf format name text written feasible line
      → IsTrue feasible × (line ≡ verdict_text (Feasible report.makespan))
  pub no_fault : (fault : ReadFault) → IsCheckFault format name text written fault → ⊥

-- the same of a text that can be read
abbrev pub PassesCheck : Format → Option (List ℕ) → List ℕ → List ℕ → Type 0
PassesCheck format name text written = length written ≤ MAX_TEXT → IsFoundFeasible format name text written
