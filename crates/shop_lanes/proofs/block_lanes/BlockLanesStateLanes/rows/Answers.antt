use Rattle.std.proofs.{Common.arith, lemmas.List.length-map}
use Rattle.shop_lanes.proofs.block_lanes.BlockLanesStateLanes.rows.Goals as goal

pub invariant_of-result : goal.invariant_of-result
invariant_of-result g c = grind (arith, length-map)
