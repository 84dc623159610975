use Rattle.shop_runs.proofs.Counting.{counts_small}
use Rattle.shop_runs.proofs.laws.counts_stay_small.Goals as goal

pub returns : goal.returns
returns c = counts_small
