use Rattle.shop_bound.proofs.Renumbered.{numbers_alike}
use Rattle.shop_bound.proofs.laws.numbers_dont_matter.Goals as goal

pub returns : goal.returns
returns c = numbers_alike
