use Rattle.shop_states.proofs.JobSets.{no_members}
use Rattle.shop_states.proofs.job_sets.JobSet.new.Goals as goal

pub returns : goal.returns
returns g c = no_members g.row.NUMBERS 0
