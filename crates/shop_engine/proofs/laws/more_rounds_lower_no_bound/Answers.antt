use Rattle.shop_engine.proofs.LaterBounds.{more_rounds_lower_no_bound}
use Rattle.shop_engine.proofs.laws.more_rounds_lower_no_bound.Goals as goal

pub returns : goal.returns
returns c = more_rounds_lower_no_bound
