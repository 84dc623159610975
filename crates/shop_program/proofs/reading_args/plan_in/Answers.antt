use Rattle.std.proofs.Common.{codes, rules}
use Rattle.clap.specs.Words.{found_of, rows_of}
use Rattle.shop_program.specs.CommandLine.{HasPlan}
use Rattle.shop_program.proofs.{Getters.{or_unread, passed_on}, Refusals.{NoNumber, no_rounds, no_budget, no_piece}}
use Rattle.shop_program.proofs.reading_args.plan_in.Goals as goal

pub returns-in_err-rounds : goal.returns-in_err-rounds
returns-in_err-rounds c =
    let rows = rows_of (found_of c.args.found.now) in
    passed_on (NoNumber rows (codes "rounds")) (HasPlan rows) c.from_residual.result c.in_err-rounds.field-0.0
    (no_rounds rows) c.in_err-rounds.ensures.err c.from_residual.ensures.1

pub returns-in_err-budget : goal.returns-in_err-budget
returns-in_err-budget c =
    let rows = rows_of (found_of c.args.found.now) in
    passed_on (NoNumber rows (codes "budget")) (HasPlan rows) c.from_residual-in_err-budget.result
    c.in_err-budget.field-0.0 (no_budget rows) c.in_err-budget.ensures.err c.from_residual-in_err-budget.ensures.1

pub returns-in_err-piece : goal.returns-in_err-piece
returns-in_err-piece c =
    let rows = rows_of (found_of c.args.found.now) in
    passed_on (NoNumber rows (codes "piece")) (HasPlan rows) c.from_residual-in_err-piece.result
    c.in_err-piece.field-0.0 (no_piece rows) c.in_err-piece.ensures.err c.from_residual-in_err-piece.ensures.1

pub returns : goal.returns
returns c =
    let rows = rows_of (found_of c.args.found.now) in
    or_unread (HasPlan rows) c.ordered.result c.ok_or_else.result c.ok_or_else.ensures.variant
    (λ plan is. rw is at c.ok_or_else.ensures.cases) (λ plan is. search rules) (λ none plan has. search rules)
