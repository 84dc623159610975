use Rattle.std.proofs.Common.{arith, codes, refl, subst, sym}
use Rattle.clap.specs.Words.{found_of, rows_of}
use Rattle.shop_program.specs.CommandLine.{HasNumber, IsArgs}
use Rattle.shop_program.proofs.{Getters.{has_flag, passed_on}, Refusals.{NoNumber, no_workers}}
use Rattle.shop_program.proofs.reading_args.solve_args.Goals as goal

pub returns-in_err-workers : goal.returns-in_err-workers
returns-in_err-workers c =
    let rows = rows_of (found_of c.args.found.now) in
    passed_on (NoNumber rows (codes "workers")) (IsArgs (codes "solve") rows) c.from_residual-in_err-workers.result
    c.in_err-workers.field-0.0 (no_workers rows) c.in_err-workers.ensures.err c.from_residual-in_err-workers.ensures.1

pub returns : goal.returns
returns c =
    let made = c.in-Some.ensures in let kept = made.keeps in let within = made.within.0 refl
    in let flag = c.get_flag-gantt.ensures in (
      refl,
      c.in_ok-format.ensures,
      c.in_ok-name.ensures,
      c.in_ok-plan.ensures,
      subst (HasNumber (rows_of (found_of c.args.found.now)) (codes "workers")) (sym kept) c.in_ok-workers.ensures.ok,
      omega arith,
      omega arith,
      has_flag (found_of c.args.found.now) (codes "gantt") _ flag.value flag.other,
      c.in_ok-file.ensures,
    )
