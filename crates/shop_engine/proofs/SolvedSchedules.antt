-- What `solve` writes, read as a schedule and checked.
use Rattle.std.proofs.{lemmas.Grind.common_steps, Common.{◌≡◌, ℕ, ◌≤◌, inl, inr, Bool, List, length, Option, Some, sym}}
use Rattle.std.{proofs.Common.{ap, ◌∙◌, subst, arith}, specs.Prelude.IsTrue}
use Rattle.shop_model.specs.{Shop.{Shop, Starts, IsFeasible}, Limits.AreStarts, declared.checking.Verdict.Verdict}
use Rattle.shop_model.specs.Checking.{EndsAt, IsVerdict, IsBefore, IsFirstEarly, IsFirstOverlap}
use Rattle.shop_model.specs.declared.checking.Verdict.TheVariants.{Feasible, WrongSize, Unreleased, Early, Overlap}
use Rattle.shop_model.proofs.Ends.{AreDifferent, feasible-in_time}
use Rattle.shop_text.specs.{Texts.NamedShop, Names.first_named, Schedules.{IsTable, IsTableFault}, Writing.verdict_text}
use Rattle.shop_text.{specs.{Writing.text_with_gantt, declared.formats.Format.Format}, proofs.ReaderTurns.one_reading}
use Rattle.shop_text.proofs.{ReportReading.reports_are_schedules, TableReadings.one_table, VisibleNames.asked_visible}
use Rattle.shop_runs.specs.{Runs.IsTrusted, declared.runs.Answer.Answer}
use Rattle.shop_engine.specs.{inner.Told.told_by, Asking.IsAsked, Checking.IsVerdictOn, SolvedSchedules.GivesSchedule}
use Rattle.shop_engine.{specs.SolvedSchedules.PassesCheck, proofs.{Reported.chart_of, RefusedTexts.not_had}}

-- ---- the table is read back

pub gives_schedule : (asked : NamedShop) (a : Answer) (gantt : Bool) (written : List ℕ) → IsTrusted asked.shop a
    → AreStarts a.table → written ≡ text_with_gantt (told_by asked a) gantt → GivesSchedule asked written
unfolding chart_of
gives_schedule asked a gantt written t small e visible short =
    let ends : EndsAt asked.shop a.table a.makespan = (t.shape, t.feasible, sym t.ends)
    in record {
      report = told_by asked a;
      rest = chart_of (told_by asked a) gantt;
      begins = e;
      is_table = subst (λ (text : List ℕ). IsTable asked.shop text a.table) (sym e)
          (reports_are_schedules (told_by asked a) gantt visible t.shape small
          (subst (λ (text : List ℕ). length text ≤ 16777216) e short));
      ends = ends;
    }

-- ---- and is found feasible

not_early : (shop : Shop) (starts : Starts) (j k : ℕ) → IsFeasible shop starts → IsFirstEarly shop starts j k → ⊥
not_early shop starts j k feasible h = grind (arith, common_steps, feasible-in_time, h.operation, h.early)

not_same : (j k i l : ℕ) → IsBefore j k i l → AreDifferent j k i l
not_same j k i l (inl lower) both = let same = both.0 in omega arith
not_same j k i l (inr later) both = let same = both.1 in let less = later.1 in omega arith

not_overlapping : (shop : Shop) (starts : Starts) (j k i l : ℕ) → IsFeasible shop starts
    → IsFirstOverlap shop starts j k i l → ⊥
not_overlapping shop starts j k i l feasible h =
    grind (arith, common_steps, not_same, h.second, feasible.apart, h.operation)

-- the verdict on a feasible table names its end
feasible_verdict : (shop : Shop) (rows : List (List ℕ)) (c : ℕ) (v : Verdict) → EndsAt shop rows c
    → IsVerdict shop rows v → v ≡ Feasible c
feasible_verdict shop rows c (Feasible d) ends h = grind (arith, common_steps, h.2, ends.2)
feasible_verdict shop rows c WrongSize ends h = absurd (h ends.0)
feasible_verdict shop rows c (Unreleased j) ends h = grind (arith, common_steps, not_early, ends.1, h.1)
feasible_verdict shop rows c (Early j k) ends h = grind (arith, common_steps, not_early, ends.1, h.2)
feasible_verdict shop rows c (Overlap m p q) ends h =
    grind (arith, common_steps, not_overlapping, p.job, p.step, q.job, q.step, ends.1, h.3)

found_feasible : (shop : Shop) (written line : List ℕ) (rows : List (List ℕ)) (c : ℕ) (feasible : Bool)
    → IsTable shop written rows → EndsAt shop rows c → IsVerdictOn shop written feasible line
    → IsTrue feasible × (line ≡ verdict_text (Feasible c))
found_feasible shop written line rows c feasible table ends h =
    let same = (one_table shop).one_table written rows h.rows table h.is_table
    in let seen = subst (λ (r : List (List ℕ)). EndsAt shop r c) same ends
    in (
      h.is_feasible.1 (seen.0, seen.1),
      h.says ∙ ap verdict_text (feasible_verdict shop h.rows c h.verdict seen h.is_verdict),
    )

some_one : (a b : NamedShop) (o : Option NamedShop) → o ≡ Some a → o ≡ Some b → a ≡ b
some_one a b o e f = cc

-- a text has one instance of the name
pub one_asked : (format : Format) (name : Option (List ℕ)) (text : List ℕ) (a b : NamedShop)
    → IsAsked format name text a → IsAsked format name text b → a ≡ b
one_asked format name text a b had other =
    let same = (one_reading format).one_list text had.shops other.shops had.is_text other.is_text
    in some_one a b (first_named other.shops name)
    (subst (λ (shops : List NamedShop). first_named shops name ≡ Some a) same had.picked) other.picked

pub passes_check : (format : Format) (name : Option (List ℕ)) (text written : List ℕ) (asked : NamedShop)
    → IsAsked format name text asked → GivesSchedule asked written → PassesCheck format name text written
passes_check format name text written asked is_asked gives short =
    let s = gives (asked_visible format text is_asked.shops name asked is_asked.is_text is_asked.picked) short
    in record {
      report = s.report;
      rest = s.rest;
      begins = s.begins;
      feasible = λ feasible line h. (let same = one_asked format name text h.asked asked h.is_asked is_asked
          in found_feasible asked.shop written line s.report.table s.report.makespan feasible s.is_table s.ends
          (subst (λ (n : NamedShop). IsVerdictOn n.shop written feasible line) same h.says));
      no_fault = λ fault h. (elim h [
        | inl bad ↦ not_had format name text fault asked bad is_asked
        | inr refused ↦ (let same = one_asked format name text refused.asked asked refused.is_asked is_asked
            in (one_table asked.shop).not_both written s.report.table fault s.is_table
            (subst (λ (n : NamedShop). IsTableFault n.shop written fault) same refused.says))
      ]);
    }
