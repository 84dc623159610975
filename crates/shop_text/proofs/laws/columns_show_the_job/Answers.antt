use Rattle.shop_text.proofs.ServedJobs.{columns_show}
use Rattle.shop_text.proofs.laws.columns_show_the_job.Goals as goal

pub returns : goal.returns
returns c = columns_show
