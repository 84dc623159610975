use Rattle.std.proofs.Common.{codes, sym}
use Rattle.clap.specs.Words.{found_of, rows_of}
use Rattle.shop_runs.specs.{declared.plans.Order.Order, Orders.order_word}
use Rattle.shop_program.{specs.CommandLine.HasText, proofs.Getters.{has_text, unless, no_value, other_value, or_unread}}
use Rattle.shop_program.proofs.reading_args.order_in.Goals as goal

pub returns-in_default : goal.returns-in_default
returns-in_default c =
    unless ((order : Order) → HasText (rows_of (found_of c.args.found.now)) (codes "order") (order_word order) → ⊥)
    c.misread.result (λ order has. no_value (found_of c.args.found.now) (codes "order") (order_word order)
    (sym c.in_default.ensures) has)

pub returns : goal.returns
returns c =
    let found = found_of c.args.found.now in
    let word = c.in-Some.word.now in
    or_unread (λ (order : Order). HasText (rows_of found) (codes "order") (order_word order)) c.of_word.result
    c.ok_or_else.result c.ok_or_else.ensures.variant (λ order is. rw is at c.ok_or_else.ensures.cases)
    (λ order is. has_text found (codes "order") word (order_word order) c.in-Some.ensures
    (sym (rw is at c.of_word.ensures)))
    (λ none order has. other_value found (codes "order") word (order_word order) (sym c.in-Some.ensures)
    (λ e. (rw none at c.of_word.ensures) order (sym e)) has)
