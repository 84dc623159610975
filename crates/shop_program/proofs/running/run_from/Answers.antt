use Rattle.std.proofs.Common.{ℕ, inr, Result, ap, sym}
use Rattle.shop_engine.{specs.declared.faults.Fault.Fault, proofs.Sources.at_err}
use Rattle.shop_program.specs.{Commands.ChecksFrom, Running.SolvesFrom, Statuses.status_of_verdict}
use Rattle.shop_program.proofs.running.run_from.Goals as goal

pub returns-in_err-feasible-in-Check : goal.returns-in_err-feasible-in-Check
returns-in_err-feasible-in-Check g c =
    let e = c.in_err-feasible-in-Check
    in let passed = c.from_residual-in_err-feasible-in-Check
    in rw c.in-Check.is
    (at_err (λ (r : Result ℕ Fault). ChecksFrom (g.R.Files.opens c.args.rt.now) c.in-Check.args c.in-Check.schedule
    (g.K.Sink.device c.args.out.now) (g.K.Sink.device c.check_text.new.sink) r (g.S.Source.device c.args.source.now)
    (g.S.Source.device c.check_text.new.source)) passed.result e.field-0.0 passed.ensures.1
    (inr (_, _, c.in_ok-second-in-Check.ensures.opened, e.ensures)))

pub returns-in_err-solve_text-in-Solve : goal.returns-in_err-solve_text-in-Solve
returns-in_err-solve_text-in-Solve g c =
    let e = c.in_err-solve_text-in-Solve
    in let passed = c.from_residual-in_err-solve_text-in-Solve
    in rw c.in-Solve.is
    (at_err (λ (r : Result ℕ Fault). SolvesFrom c.in-Solve.args (g.K.Sink.device c.args.out.now)
    (g.K.Sink.device c.solve_text.new.sink) r (g.S.Source.device c.args.source.now)
    (g.S.Source.device c.solve_text.new.source)) passed.result e.field-0.0 passed.ensures.1
    (record { right = e.ensures.right; determined = e.ensures.determined; solving = e.ensures.solving }))

pub returns-in-Check : goal.returns-in-Check
returns-in-Check g c =
    let told = ap status_of_verdict (sym c.if-feasible.false) in
    rw c.in-Check.is
    (_, told, (_, _, c.in_ok-second-in-Check.ensures.opened, c.in_ok-feasible-in-Check.ensures))

pub returns-then-feasible : goal.returns-then-feasible
returns-then-feasible g c =
    let told = ap status_of_verdict (sym c.if-feasible.true) in
    rw c.in-Check.is
    (_, told, (_, _, c.in_ok-second-in-Check.ensures.opened, c.in_ok-feasible-in-Check.ensures))
