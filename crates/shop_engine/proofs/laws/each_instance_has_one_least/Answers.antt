use Rattle.shop_engine.proofs.LeastOnes.{each_has_one_least}
use Rattle.shop_engine.proofs.laws.each_instance_has_one_least.Goals as goal

pub returns : goal.returns
returns c = each_has_one_least
