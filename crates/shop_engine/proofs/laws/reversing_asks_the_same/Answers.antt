use Rattle.shop_engine.proofs.Reversing.{reversing_asks_the_same}
use Rattle.shop_engine.proofs.laws.reversing_asks_the_same.Goals as goal

pub returns : goal.returns
returns c = reversing_asks_the_same
