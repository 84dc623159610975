use Rattle.std.proofs.Common.{w64}
use Rattle.shop_lanes.proofs.Comparisons.{greater_covers, lessened_told_is}
use Rattle.shop_lanes.proofs.blocks_of_widths.Block64Block.difference.Goals as goal

pub overflow_sub-result : goal.overflow_sub-result
overflow_sub-result c = greater_covers w64 c.args.a.0 c.args.b.0 c.requires

pub returns : goal.returns
returns c = lessened_told_is w64 c.args.a.0 c.args.b.0 c.requires
