use Rattle.std.proofs.Common.{arith, slice_index_or}
use Rattle.shop_model.proofs.Ranges.{flat_map_more_part}
use Rattle.shop_model.proofs.intervals.intervals.Goals as goal

pub loop-j-preserved : goal.loop-j-preserved
loop-j-preserved c = grind (arith, flat_map_more_part, slice_index_or)
