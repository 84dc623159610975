use Rattle.std.proofs.Common.{w64}
use Rattle.shop_lanes.proofs.Eights.{lanes_fit}
use Rattle.shop_lanes.proofs.blocks_of_widths.Block64Block.sum.Goals as goal

pub overflow_add-result : goal.overflow_add-result
overflow_add-result c = lanes_fit w64 c.args.a.0 c.args.b.0 c.requires
