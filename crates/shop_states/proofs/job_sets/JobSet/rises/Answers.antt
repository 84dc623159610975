use Rattle.std.proofs.Common.{subst}
use Rattle.shop_states.{specs.inner.RisingLists.Rises, proofs.JobSets.members_rise}
use Rattle.shop_states.proofs.job_sets.JobSet.rises.Goals as goal

pub returns : goal.returns
returns g c = subst Rises c.self.view_is (members_rise 0 c.self.inside.numbers)
