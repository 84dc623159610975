use Rattle.std.proofs.{Common.arith, lemmas.Grind.common_steps}
use Rattle.shop_text.proofs.instance_drafts.job_of_machines.Goals as goal

pub loop-i-preserved : goal.loop-i-preserved
loop-i-preserved c = grind (arith, common_steps)

pub returns-clause-judged : goal.returns-clause-judged
returns-clause-judged c = grind (arith, common_steps)
