use Rattle.std.proofs.Common.{arith}
use Rattle.shop_nodes.proofs.LeftLemmas.{held_left, within_halt, can_be_shared}
use Rattle.shop_nodes.proofs.left.Left.parts.Goals as goal

pub returns-clause-open : goal.returns-clause-open
returns-clause-open c = grind (arith, held_left)

pub returns-clause-within : goal.returns-clause-within
returns-clause-within c = grind (arith, within_halt)

pub returns-clause-sharable : goal.returns-clause-sharable
returns-clause-sharable c = grind (arith, can_be_shared)
