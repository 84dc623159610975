use Rattle.std.proofs.Common.{w16}
use Rattle.shop_lanes.proofs.Comparisons.{greater_told_is}
use Rattle.shop_lanes.proofs.blocks_of_widths.Block16Block.greater.Goals as goal

pub returns : goal.returns
returns c = greater_told_is w16 c.args.a.0 c.args.b.0 c.requires
