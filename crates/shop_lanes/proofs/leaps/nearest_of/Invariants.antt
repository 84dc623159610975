use Rattle.std.proofs.Common.{◌≡◌, ◌*◌, min, drop, map, length}
use Rattle.shop_lanes.specs.{Eights.ahead_of, Folds.least_up_to}
use Rattle.shop_lanes.proofs.leaps.nearest_of.Given as goal

abbrev pub invariant-loop-block : goal.invariant-loop-block
invariant-loop-block g l =
    let least = least_up_to g.B.Block.GREATEST
    in let row = map (ahead_of g.B.Block.GREATEST l.fn.from) (map g.B.Block.value l.heads)
    in (length (g.B.Block.numbers l.least) ≡ 8)
    × (min (least (g.B.Block.numbers l.least)) (least (drop (8 * l.block) row)) ≡ least row)
