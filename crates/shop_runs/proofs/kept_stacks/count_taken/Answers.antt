use Rattle.std.proofs.{Common.arith, lemmas.Grind.common_steps}
use Rattle.shop_runs.proofs.KeptLemmas.{one_less}
use Rattle.shop_runs.proofs.kept_stacks.count_taken.Goals as goal

pub returns-then-least-gt0 : goal.returns-then-least-gt0
returns-then-least-gt0 c = grind (arith, one_less)

pub returns-then-least-bound : goal.returns-then-least-bound
returns-then-least-bound c = grind (arith, common_steps)

pub returns : goal.returns
returns c = grind (arith, common_steps)
