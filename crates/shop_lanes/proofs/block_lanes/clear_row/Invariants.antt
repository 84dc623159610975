use Rattle.std.proofs.Common.{◌≡◌, map, replicate, take, length}
use Rattle.shop_lanes.proofs.block_lanes.clear_row.Given as goal

abbrev pub invariant-loop-position : goal.invariant-loop-position
invariant-loop-position g l =
    (map g.B.Block.value (take l.position l.row) ≡ replicate l.position 0)
    × (length l.row ≡ length l.fn.row)
