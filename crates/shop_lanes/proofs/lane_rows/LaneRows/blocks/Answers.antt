use Rattle.std.proofs.Common.{rules}
use Rattle.shop_lanes.proofs.lane_rows.LaneRows.blocks.Goals as goal

pub returns : goal.returns
returns c = search rules
