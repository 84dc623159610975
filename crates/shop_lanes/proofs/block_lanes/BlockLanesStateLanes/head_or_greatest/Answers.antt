use Rattle.std.proofs.{Common.arith, lemmas.List.{length-map, length-take}}
use Rattle.shop_lanes.proofs.block_lanes.BlockLanesStateLanes.head_or_greatest.Goals as goal

pub index-requires : goal.index-requires
index-requires g c = grind (arith, length-map, length-take)
