use Rattle.std.proofs.Common.{◌≡◌, map, take}
use Rattle.shop_lanes.proofs.block_lanes.copied.Given as goal

abbrev pub invariant-loop-number : goal.invariant-loop-number
invariant-loop-number g l = map g.B.Block.value l.copy.items ≡ take l.number-index l.numbers
