use Rattle.shop_runs.proofs.Cutting.{pieces_all}
use Rattle.shop_runs.proofs.laws.pieces_are_all.Goals as goal

pub returns : goal.returns
returns c = pieces_all
