use Rattle.std.proofs.{Common.arith, lemmas.Simd.length-zip2}
use Rattle.shop_lanes.proofs.Serving.{length-waiting}
use Rattle.shop_lanes.proofs.served_blocks.serve.Goals as goal

pub greater-requires : goal.greater-requires
greater-requires g c = grind (arith, length-waiting, length-zip2)
