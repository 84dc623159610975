use Rattle.std.proofs.{Common.{arith, length-set}, lemmas.List.{take-map, take_more_set, map_push}}
use Rattle.shop_lanes.proofs.EmptyRows.{row_begun, row_more}
use Rattle.shop_lanes.proofs.block_lanes.end_row.Goals as goal

pub loop-index-init : goal.loop-index-init
loop-index-init g c = grind (arith, take-map, row_begun)

pub loop-index-preserved : goal.loop-index-preserved
loop-index-preserved g c = (grind (arith, take_more_set, map_push, row_more), grind (arith, length-set))
