use Rattle.std.proofs.{Common.arith, lemmas.Grind.common_steps}
use Rattle.shop_model.proofs.word_jobs.JobsIterator.next.Goals as goal

pub returns-clause-goes : goal.returns-clause-goes
returns-clause-goes c = grind (arith, common_steps)

pub returns-clause-steps : goal.returns-clause-steps
returns-clause-steps c = grind (arith, common_steps)
