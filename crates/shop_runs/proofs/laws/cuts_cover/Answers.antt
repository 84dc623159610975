use Rattle.shop_runs.proofs.Covering.{cut_covers}
use Rattle.shop_runs.proofs.laws.cuts_cover.Goals as goal

pub returns : goal.returns
returns c = cut_covers
