use Rattle.std.proofs.Common.{arith}
use Rattle.shop_states.proofs.MachineSets.{pop_high, pop_low, pop_none}
use Rattle.shop_states.proofs.machine_sets.MachineSet.pop_first.Goals as goal

pub returns-then-self-gt0 : goal.returns-then-self-gt0
returns-then-self-gt0 c = grind (arith, pop_low)

pub returns-then-self-eq0 : goal.returns-then-self-eq0
returns-then-self-eq0 c = grind (arith, pop_none)

pub returns : goal.returns
returns c = grind (arith, pop_high)
