use Rattle.std.proofs.{Common.arith, Math.Seq.take-suc, lemmas.List.{map-append, take_all}}
use Rattle.shop_lanes.proofs.block_lanes.copied.Goals as goal

pub returns : goal.returns
returns g c = grind (arith, take_all)

pub loop-number-preserved : goal.loop-number-preserved
loop-number-preserved g c = grind (arith, map-append, take-suc)
