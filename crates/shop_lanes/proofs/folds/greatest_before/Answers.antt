use Rattle.std.proofs.Common.{arith}
use Rattle.shop_lanes.proofs.Maxima.{before_turned, turns_are}
use Rattle.shop_lanes.proofs.folds.greatest_before.Goals as goal

pub returns : goal.returns
returns g c = grind (arith, turns_are, before_turned)
