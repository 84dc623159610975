-- Laws of the answers of plans, and of reports.
use Rattle.std.specs.Prelude.{◌≡◌, ℕ, ◌≤◌, ◌↔◌, Bool, List, Option}
use Rattle.shop_model.specs.{Limits.IsWithinLimits, Shop.{Shop, IsLeast}}
use Rattle.shop_model.specs.declared.checking.Verdict.TheVariants.{Feasible}
use Rattle.shop_text.specs.{Texts.NamedShop, Writing.{Reported, verdict_text}, declared.formats.Format.Format}
use Rattle.shop_runs.specs.{Round.Planned, Runs.planned, Answers.{answer, bound_of}, Exact.with_rounds}
use Rattle.shop_engine.specs.{declared.args.SolveArgs.SolveArgs, Answers.answer_of, Checking.IsCheckOf}
use Rattle.shop_engine.specs.{Headline.{IsRight, IsRightOf}, Solving.IsSolution}

-- no node is open just where bound and makespan are one number
abbrev pub OptimalWhereBoundIsMakespan : Type 0
OptimalWhereBoundIsMakespan = (asked : NamedShop) (plan : Planned) → let r = answer_of asked plan
    in (r.open_nodes ≡ 0) ↔ (r.bound ≡ r.makespan)

-- more rounds of a plan end at no smaller bound
abbrev pub MoreRoundsLowerNoBound : Type 0
MoreRoundsLowerNoBound = (shop : Shop) (plan : Planned) (n m : ℕ) → IsWithinLimits shop → n ≤ m
    → bound_of shop (answer shop (with_rounds plan n)) ≤ bound_of shop (answer shop (with_rounds plan m))

pub record MetBoundsAreLeast : Type 0 where
  -- a report whose status is optimal: its makespan is least
  pub reported : (asked : NamedShop) (gantt : Bool) (written : List ℕ) → (right : IsRight asked gantt written)
      → right.report.open_nodes ≡ 0 → IsLeast asked.shop right.report.makespan
  -- `check` says `feasible c` of a schedule, maybe of another solver, and a report on the instance
  -- has the bound c: c is least
  pub checked : (format : Format) (name : Option (List ℕ)) (text : List ℕ) → (schedule line : List ℕ) (feasible : Bool)
      (c : ℕ) → IsCheckOf format name text schedule feasible line → line ≡ verdict_text (Feasible c)
      → (gantt : Bool) (written : List ℕ) (right : IsRightOf format name gantt text written)
      → right.says.report.bound ≡ c → IsLeast right.asked.shop c

pub record TellsTheAnswer (plan : Planned) (asked : NamedShop) (report : Reported) : Type 0 where
  pub limits : IsWithinLimits asked.shop
  pub makespan : report.makespan ≡ (answer_of asked plan).makespan
  pub bound : report.bound ≡ (answer_of asked plan).bound
  pub status : (report.open_nodes ≡ 0) ↔ ((answer_of asked plan).open_nodes ≡ 0)

-- So what the laws say of answers and their bounds is so of the report on each accepted text.
abbrev pub ReportsTellTheAnswer : Type 0
ReportsTellTheAnswer = (args : SolveArgs) (text written : List ℕ) → (solved : IsSolution args text written)
    → TellsTheAnswer (planned args.plan) solved.right.asked solved.right.says.report
