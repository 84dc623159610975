use Rattle.std.proofs.Common.{◌≡◌, ◌≤◌, ◌*◌, length, map, drop}
use lib.Lanes.{mask_l}
use Rattle.shop_lanes.specs.Eights.{is_marked}
use Rattle.shop_lanes.proofs.passes.bits_of.Given as goal

abbrev pub invariant-loop-pair : goal.invariant-loop-pair
invariant-loop-pair g l =
    (16 * l.pair ≤ length (map g.B.Block.value l.numbers))
    × (l.bits ≡ mask_l (map (is_marked l.equal l.number) (drop (16 * l.pair) (map g.B.Block.value l.numbers))))

abbrev pub decreases-loop-pair : goal.decreases-loop-pair
decreases-loop-pair g l = l.pair
