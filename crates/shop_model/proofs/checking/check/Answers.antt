use Rattle.std.proofs.{Common.arith, lemmas.Grind.common_steps}
use Rattle.shop_model.proofs.checking.check.Goals as goal

pub returns-else-at-eq0-clause-feasible : goal.returns-else-at-eq0-clause-feasible
returns-else-at-eq0-clause-feasible c = grind (arith, common_steps)
