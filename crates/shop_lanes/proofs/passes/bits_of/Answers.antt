use Rattle.std.proofs.{Common.{◌≤◌, length, map, arith}, lemmas.List.length-map}
use Rattle.shop_lanes.{specs.Eights.is_marked, proofs.BlockMasks.{length-block, mask_back, mask_fits, no_odd}}
use Rattle.shop_lanes.proofs.{BlockMasks.odd_block, passes.bits_of.Goals.{then-count-gt0, else-count-gt0}}
use Rattle.shop_lanes.proofs.passes.bits_of.Goals as goal

pub overflow_mul-bits : goal.overflow_mul-bits
overflow_mul-bits g c =
    let row = map g.B.Block.value c.args.numbers.now
    in let few : length row ≤ 64 = grind (arith, length-map)
    in let fits = mask_fits (is_marked c.args.equal c.args.number) c.loop-pair.pair row c.loop-pair-test.true
    c.loop-pair.invariant.0 few c.pair_bits.result c.loop-pair.bits c.pair_bits.ensures c.loop-pair.invariant.1
    in omega (arith, fits)

pub overflow_add-bits : goal.overflow_add-bits
overflow_add-bits g c =
    let row = map g.B.Block.value c.args.numbers.now
    in let few : length row ≤ 64 = grind (arith, length-map)
    in let fits = mask_fits (is_marked c.args.equal c.args.number) c.loop-pair.pair row c.loop-pair-test.true
    c.loop-pair.invariant.0 few c.pair_bits.result c.loop-pair.bits c.pair_bits.ensures c.loop-pair.invariant.1
    in omega (arith, fits)

pub loop-pair-preserved : goal.loop-pair-preserved
loop-pair-preserved g c = grind (arith, mask_back)

pub loop-pair-init : goal.loop-pair-init
loop-pair-init g c = (
  grind (arith, length-map),
  elim c.if-count-gt0.branch [
    | then-count-gt0 w ↦ grind (arith, odd_block, length-map)
    | else-count-gt0 w ↦ grind (arith, no_odd, length-map)
  ],
)

pub bits-bits-requires-clause-eight : goal.bits-bits-requires-clause-eight
bits-bits-requires-clause-eight g c = grind (arith, length-map, length-block)
