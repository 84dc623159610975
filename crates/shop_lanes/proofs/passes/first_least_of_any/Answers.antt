use Rattle.std.proofs.{Common.{arith, length, map}, lemmas.List.length-map}
use Rattle.shop_lanes.proofs.BlockMasks.{length-block, least_found, position_in_block, none_in_block}
use Rattle.shop_lanes.proofs.passes.first_least_of_any.Goals as goal

pub overflow_add-result : goal.overflow_add-result
overflow_add-result g c =
    let test = c.loop-block-test.true
    in let long = length-map c.args.numbers.now g.B.Block.value
    in let found = position_in_block c.least_number-least.result c.loop-block.block
    (map g.B.Block.value c.args.numbers.now) (omega (arith, long)) c.loop-block.invariant c.read.ensures
    c.bits-bits.ensures c.if-bits-ne0.true
    in let within = found.within
    in let room = c.requires.room
    in record { fits = omega (arith, long) }

pub returns-then-bits-ne0 : goal.returns-then-bits-ne0
returns-then-bits-ne0 g c =
    let test = c.loop-block-test.true
    in let row = map g.B.Block.value c.args.numbers.now
    in let long = length-map c.args.numbers.now g.B.Block.value
    in least_found g.B.Block.GREATEST row c.least_number-least.result _ (omega (arith, long, c.requires.some))
    c.requires.fits c.least_number-least.ensures (position_in_block c.least_number-least.result c.loop-block.block row
    (omega (arith, long)) c.loop-block.invariant c.read.ensures c.bits-bits.ensures c.if-bits-ne0.true)

pub loop-block-preserved : goal.loop-block-preserved
loop-block-preserved g c =
    let test = c.loop-block-test.true
    in none_in_block c.least_number-least.result c.loop-block.block (map g.B.Block.value c.args.numbers.now)
    (omega (arith, length-map c.args.numbers.now g.B.Block.value)) c.loop-block.invariant c.read.ensures
    c.bits-bits.ensures c.if-bits-ne0.false

pub returns : goal.returns
returns g c =
    let past = c.loop-block-test.false
    in let long = length-map c.args.numbers.now g.B.Block.value
    in least_found g.B.Block.GREATEST (map g.B.Block.value c.args.numbers.now) c.least_number-least.result
    (length c.args.numbers.now) (omega (arith, long, c.requires.some)) c.requires.fits c.least_number-least.ensures
    (record {
      within = omega (arith, long);
      found = λ lt. absurd (omega (arith, long));
      first = λ k lt. c.loop-block.invariant k (omega (arith, c.requires.whole_blocks));
    })

pub bits-bits-requires-clause-eight : goal.bits-bits-requires-clause-eight
bits-bits-requires-clause-eight g c = grind (arith, length-map, length-block)
