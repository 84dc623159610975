use Rattle.shop_bound.proofs.BoundLaw.{lb-le-end}
use Rattle.shop_bound.proofs.laws.bounds_are_lower.Goals as goal

pub returns : goal.returns
returns c = λ shop w word starts under. lb-le-end shop w starts word under
