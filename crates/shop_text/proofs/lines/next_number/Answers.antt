use Rattle.std.proofs.Common.{sym, arith}
use Rattle.shop_text.proofs.{LineLemmas.{no_tokens, none_left}, DigitLemmas.{cut_to_end, cut_at}}
use Rattle.shop_text.proofs.lines.next_number.Goals as goal

pub returns-in_err-rest-clause-cut : goal.returns-in_err-rest-clause-cut
returns-in_err-rest-clause-cut c = grind (arith, no_tokens, none_left)

pub returns-then-end-rest-clause-cut : goal.returns-then-end-rest-clause-cut
returns-then-end-rest-clause-cut c =
    cut_to_end c.args.line.now c.in_ok-rest.field-0 c.leading_digits-value.result.0 c.leading_digits-value.result.1
    (sym c.in_ok-rest.ensures) c.leading_digits-value.ensures c.if-end-rest.true

pub returns-then-is_between_tokens-clause-cut : goal.returns-then-is_between_tokens-clause-cut
returns-then-is_between_tokens-clause-cut c = grind (arith, cut_at)
