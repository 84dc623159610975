use Rattle.shop_runs.proofs.Ending.{searches_end}
use Rattle.shop_runs.proofs.laws.searches_end.Goals as goal

pub returns : goal.returns
returns c = searches_end
