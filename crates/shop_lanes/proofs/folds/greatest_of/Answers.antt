use Rattle.std.proofs.{Common.arith, lemmas.Simd.length-zip2}
use Rattle.shop_lanes.proofs.Extremes.{folded-max, folded_is}
use Rattle.shop_lanes.proofs.folds.greatest_of.Goals as goal

pub greater-pairs-requires : goal.greater-pairs-requires
greater-pairs-requires g c = grind (arith, length-zip2)

pub greater-requires : goal.greater-requires
greater-requires g c = grind (arith, length-zip2)

pub returns : goal.returns
returns g c = grind (arith, folded_is, folded-max)
