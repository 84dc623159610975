use Rattle.std.proofs.{Common.arith, lemmas.Grind.common_steps}
use Rattle.shop_runs.proofs.stacks.Stack.push.Goals as goal

pub returns : goal.returns
returns c = grind (arith, common_steps)
