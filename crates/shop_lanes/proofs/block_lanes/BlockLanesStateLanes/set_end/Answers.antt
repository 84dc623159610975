use Rattle.std.proofs.{Common.{arith, length-set}, lemmas.List.{map-set, get_or-set_other, drop-set-add, take-set-le}}
use Rattle.shop_lanes.proofs.Padding.{take-set, padded_set}
use Rattle.shop_lanes.proofs.block_lanes.BlockLanesStateLanes.set_end.Goals as goal

pub invariant_of-self : goal.invariant_of-self
invariant_of-self g c = grind (arith, map-set, length-set, get_or-set_other, drop-set-add, padded_set)

pub returns-clause-heads : goal.returns-clause-heads
returns-clause-heads g c = grind (arith, take-set-le)

pub returns-clause-ends : goal.returns-clause-ends
returns-clause-ends g c = grind (arith, map-set, drop-set-add, take-set)
