use Rattle.std.proofs.{Common.arith, lemmas.Grind.common_steps}
use Rattle.shop_text.proofs.names.pick.Goals as goal

pub returns-then-eq : goal.returns-then-eq
returns-then-eq c = grind (arith, common_steps)
