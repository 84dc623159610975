use Rattle.shop_runs.proofs.Covering.{gather_covers}
use Rattle.shop_runs.proofs.laws.gathering_covers.Goals as goal

pub returns : goal.returns
returns c = gather_covers
