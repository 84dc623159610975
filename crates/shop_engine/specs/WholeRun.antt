-- One whole run, from the bytes of an instance text to the bytes of its report: the two jobs that
-- cross (the lines of jobs behind them are skipped), with the plan that `solve` has where none is given.
--     OneWholeRun      the report of that text is these bytes, and no others
use Rattle.std.specs.Prelude.{◌≡◌, ℕ, true, List, ◌++◌, None, codes}
use Rattle.shop_text.specs.declared.formats.Format.TheVariants.{Orlib}
use Rattle.shop_runs.specs.{Round.Planned, Runs.planned, declared.plans.Order.TheVariants.Kept}
use Rattle.shop_engine.specs.{declared.args.SolveArgs.SolveArgs, Asking.OfAsked}
use Rattle.shop_engine.specs.Headline.{IsDetermined, IsDeterminedOf}

abbrev pub crossing_text : List ℕ
crossing_text = codes "2 2\n0 3 1 2\n1 2 0 4\njob 0: 0 3\njob 1: 0 3\n"

abbrev pub crossing_report : List ℕ
crossing_report = codes "instance 1\nsize 2 2\nmakespan 7\nbound 7\nstatus optimal\nopen 0\n"
    ++ codes "rounds 1\nnodes 6\njob 0: 0 3\njob 1: 0 3\n" ++ codes "unit 1\nmachine 0 |0001111|\nmachine 1 |11.00..|\n"

abbrev pub usual_plan : Planned
usual_plan = record { rounds = 1000; budget = 100000; piece = 1; order = Kept }

pub record OneWholeRun : Type 0 where
  -- the definitions give this report
  pub given : OfAsked Orlib None crossing_text (λ asked. IsDetermined asked usual_plan true crossing_report)
  -- and what is determined by them is this report
  pub no_other : (args : SolveArgs) (written : List ℕ) → args.format ≡ Orlib → args.name ≡ None
      → planned args.plan ≡ usual_plan → args.gantt ≡ true
      → IsDeterminedOf args crossing_text written → written ≡ crossing_report
