use Rattle.std.proofs.Common.{rules}
use Rattle.shop_model.proofs.GivenLemmas.{jobs_within}
use Rattle.shop_model.proofs.instances.Instance.of_jobs.Goals as goal

pub invariant_of-result : goal.invariant_of-result
invariant_of-result c = jobs_within c.args.machines c.args.jobs.items
    (rw c.as_slice.ensures.value at (c.are_jobs_within.ensures.0 c.if-are_jobs_within.true))

pub returns-else-are_jobs_within-clause-err : goal.returns-else-are_jobs_within-clause-err
returns-else-are_jobs_within-clause-err c = search rules
