use Rattle.std.proofs.{Common.arith, lemmas.List.{length-map, length-take}}
use Rattle.shop_lanes.proofs.block_lanes.BlockLanesStateLanes.copy_from.Goals as goal

pub copy_from_slice-requires : goal.copy_from_slice-requires
copy_from_slice-requires g c = grind (arith, length-map, length-take)
