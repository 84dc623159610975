use Rattle.std.proofs.{Common.arith, lemmas.Grind.common_steps}
use Rattle.shop_text.proofs.instance_drafts.released_job.Goals as goal

pub returns-clause-judged : goal.returns-clause-judged
returns-clause-judged c = grind (arith, common_steps)

pub returns-in_err-route-clause-judged : goal.returns-in_err-route-clause-judged
returns-in_err-route-clause-judged c = grind (arith, common_steps)
