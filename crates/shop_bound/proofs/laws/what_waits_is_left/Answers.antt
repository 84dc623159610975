use Rattle.shop_bound.proofs.HeadWalks.{waiting_is}
use Rattle.shop_bound.proofs.laws.what_waits_is_left.Goals as goal

pub returns : goal.returns
returns c = λ shop p. waiting_is shop p
