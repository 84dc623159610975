use Rattle.shop_runs.proofs.Covering.{opens_covering}
use Rattle.shop_runs.proofs.laws.opening_covers.Goals as goal

pub returns : goal.returns
returns c = opens_covering
