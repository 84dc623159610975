use Rattle.std.proofs.{Common.arith, lemmas.List.length-map}
use Rattle.shop_lanes.proofs.BlockMasks.{length-block, least_begins, least_more, least_ends, length-lesser}
use Rattle.shop_lanes.proofs.passes.least_number.Goals as goal

pub loop-block-init : goal.loop-block-init
loop-block-init g c = grind (arith, least_begins)

pub loop-block-preserved : goal.loop-block-preserved
loop-block-preserved g c = grind (arith, length-map, length-lesser, least_more)

pub returns : goal.returns
returns g c = grind (arith, least_ends, length-map)

pub lesser-least-requires : goal.lesser-least-requires
lesser-least-requires g c = grind (arith, length-map, length-block)
