use Rattle.std.proofs.Common.{w16}
use Rattle.shop_lanes.proofs.Comparisons.{waiting_told_is}
use Rattle.shop_lanes.proofs.blocks_of_widths.Block16Block.waiting.Goals as goal

pub returns : goal.returns
returns c = waiting_told_is w16 c.args.block.0 c.args.heads.0 c.args.least.0 c.requires.heads c.requires.least
