use Rattle.shop_bound.proofs.BoundsRise.{bounds_rise}
use Rattle.shop_bound.proofs.laws.bounds_never_fall.Goals as goal

pub returns : goal.returns
returns c = λ shop v later limits word. bounds_rise shop v later limits word
