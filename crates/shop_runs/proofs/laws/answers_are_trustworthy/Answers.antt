use Rattle.shop_runs.proofs.Trusting.{trustworthy}
use Rattle.shop_runs.proofs.laws.answers_are_trustworthy.Goals as goal

pub returns : goal.returns
returns c = trustworthy
