use Rattle.std.proofs.Common.{w64}
use Rattle.shop_lanes.proofs.Comparisons.{lesser_told_is}
use Rattle.shop_lanes.proofs.blocks_of_widths.Block64Block.lesser.Goals as goal

pub returns : goal.returns
returns c = lesser_told_is w64 c.args.a.0 c.args.b.0 c.requires
