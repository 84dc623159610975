use Rattle.shop_runs.proofs.Ending.{solved_stays}
use Rattle.shop_runs.proofs.laws.solved_stays.Goals as goal

pub returns : goal.returns
returns c = solved_stays
