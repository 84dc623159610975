use Rattle.std.proofs.Common.{arith}
use Rattle.shop_lanes.proofs.Eights.{ones_fit, twos_fit, four_fits, run_moved}
use Rattle.shop_lanes.proofs.folds.sums_before.Goals as goal

pub sum-pairs-requires : goal.sum-pairs-requires
sum-pairs-requires g c = grind (arith, ones_fit)

pub sum-fours-requires : goal.sum-fours-requires
sum-fours-requires g c = grind (arith, twos_fit)

pub sum-requires : goal.sum-requires
sum-requires g c = grind (arith, four_fits)

pub returns : goal.returns
returns g c = grind (arith, run_moved)
