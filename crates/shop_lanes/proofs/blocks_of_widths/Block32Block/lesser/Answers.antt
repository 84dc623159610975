use Rattle.std.proofs.Common.{w32}
use Rattle.shop_lanes.proofs.Comparisons.{lesser_told_is}
use Rattle.shop_lanes.proofs.blocks_of_widths.Block32Block.lesser.Goals as goal

pub returns : goal.returns
returns c = lesser_told_is w32 c.args.a.0 c.args.b.0 c.requires
