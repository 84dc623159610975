use Rattle.std.proofs.{Common.{arith, map}, lemmas.List.length-map}
use Rattle.shop_lanes.proofs.{Extremes.least_le_top, BlockMasks.least_by_mask}
use Rattle.shop_lanes.proofs.passes.first_least_of.Goals as goal

pub bits_of-bits-requires-clause-fits : goal.bits_of-bits-requires-clause-fits
bits_of-bits-requires-clause-fits g c = grind (arith, least_le_top)

pub returns : goal.returns
returns g c =
    let row = map g.B.Block.value c.args.numbers.now
    in let long = length-map c.args.numbers.now g.B.Block.value
    in let q = c.requires
    in let found = least_by_mask g.B.Block.GREATEST row c.least_number-least.result c.bits_of-bits.result
    (omega (arith, long, q.can.some)) (omega (arith, long, q.count, q.few)) q.can.fits
    c.least_number-least.ensures c.bits_of-bits.ensures
    in record { first = found.0; least = found.1 }
