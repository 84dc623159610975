use Rattle.std.proofs.{Common.arith, lemmas.Simd.length-zip2}
use Rattle.shop_lanes.proofs.Extremes.{folded-min, folded_is}
use Rattle.shop_lanes.proofs.folds.least_of.Goals as goal

pub lesser-pairs-requires : goal.lesser-pairs-requires
lesser-pairs-requires g c = grind (arith, length-zip2)

pub lesser-requires : goal.lesser-requires
lesser-requires g c = grind (arith, length-zip2)

pub returns : goal.returns
returns g c = grind (arith, folded_is, folded-min)
