use Rattle.std.proofs.Common.{length-set, arith}
use Rattle.std.proofs.lemmas.List.{map-set, length-map, length-take, get_or-set_other, drop-set-lt}
use Rattle.shop_lanes.proofs.Padding.{take-set}
use Rattle.shop_lanes.proofs.block_lanes.BlockLanesStateLanes.set_head.Goals as goal

pub invariant_of-self : goal.invariant_of-self
invariant_of-self g c = grind (arith, length-take, length-map, map-set, length-set, get_or-set_other, drop-set-lt)

pub returns-clause-heads : goal.returns-clause-heads
returns-clause-heads g c = grind (arith, take-set, map-set)

pub returns-clause-ends : goal.returns-clause-ends
returns-clause-ends g c = grind (arith, length-take, length-map, map-set, drop-set-lt)
