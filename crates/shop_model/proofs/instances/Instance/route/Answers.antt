use Rattle.std.proofs.{Common.arith, lemmas.Grind.common_steps}
use Rattle.shop_model.proofs.instances.Instance.route.Goals as goal

pub returns-in-Jobs-clause-route : goal.returns-in-Jobs-clause-route
returns-in-Jobs-clause-route c = grind (arith, common_steps)
