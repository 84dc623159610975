use Rattle.std.proofs.{Common.arith, lemmas.List.take-map}
use Rattle.shop_lanes.proofs.block_lanes.clear_row.Goals as goal

pub returns : goal.returns
returns g c = grind (arith, take-map)
