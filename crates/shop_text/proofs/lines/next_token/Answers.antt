use Rattle.std.proofs.Common.{arith}
use Rattle.shop_text.proofs.LineLemmas.{no_tokens, none_left, tokens_at, tokens_to_end}
use Rattle.shop_text.proofs.lines.next_token.Goals as goal

pub returns-in_err-rest-clause-cut : goal.returns-in_err-rest-clause-cut
returns-in_err-rest-clause-cut c = grind (arith, no_tokens, none_left)

pub returns-in-Some-clause-cut : goal.returns-in-Some-clause-cut
returns-in-Some-clause-cut c = grind (arith, tokens_at)

pub returns-in-None-clause-cut : goal.returns-in-None-clause-cut
returns-in-None-clause-cut c = grind (arith, tokens_to_end)
