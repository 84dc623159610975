use Rattle.std.proofs.Common.{◌≡◌, ◌*◌, min, drop, map, length}
use Rattle.shop_lanes.specs.Folds.{least_up_to}
use Rattle.shop_lanes.proofs.passes.least_number.Given as goal

abbrev pub invariant-loop-block : goal.invariant-loop-block
invariant-loop-block g l =
    let least = least_up_to g.B.Block.GREATEST
    in let row = map g.B.Block.value l.numbers
    in (length (g.B.Block.numbers l.least) ≡ 8)
    × (min (least (g.B.Block.numbers l.least)) (least (drop (8 * l.block) row)) ≡ least row)
