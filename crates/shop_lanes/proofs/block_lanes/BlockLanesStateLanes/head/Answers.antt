use Rattle.std.proofs.{Common.arith, lemmas.List.{get_or-map, get_or-take, length-map, length-take}}
use Rattle.shop_lanes.proofs.block_lanes.BlockLanesStateLanes.head.Goals as goal

pub returns : goal.returns
returns g c = grind (arith, get_or-map, get_or-take, length-map, length-take)
