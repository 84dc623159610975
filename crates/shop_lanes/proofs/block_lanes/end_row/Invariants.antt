use Rattle.std.proofs.Common.{◌≡◌, ◌-◌, ◌++◌, map, replicate, take, length}
use Rattle.shop_lanes.proofs.block_lanes.end_row.Given as goal

abbrev pub invariant-loop-index : goal.invariant-loop-index
invariant-loop-index g l =
    (map g.B.Block.value (take l.index l.row)
    ≡ take l.positions (map g.B.Block.value l.fn.row) ++ replicate (l.index - l.positions) g.B.Block.GREATEST)
    × (length l.row ≡ length l.fn.row)
