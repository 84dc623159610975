use Rattle.shop_runs.proofs.Covering.{round_covers}
use Rattle.shop_runs.proofs.laws.rounds_keep_the_cover.Goals as goal

pub returns : goal.returns
returns c = round_covers
