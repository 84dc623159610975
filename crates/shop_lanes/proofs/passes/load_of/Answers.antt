use Rattle.std.proofs.{lemmas.List.length-map, Common.{◌∙◌, ap, arith, length}}
use Rattle.shop_lanes.proofs.{BlockMasks.length-block, ColumnTurns.{columns_in, parts, both_fit, served_more}}
use Rattle.shop_lanes.proofs.{ColumnTurns.served_whole, ColumnScan.{works_fit, ends_fit, ends_eight, last_end}}
use Rattle.shop_lanes.specs.Folds.{greatest}
use Rattle.shop_lanes.proofs.passes.load_of.Goals as goal

pub serve-after-requires-clause-fits : goal.serve-after-requires-clause-fits
serve-after-requires-clause-fits g c =
    let cols = columns_in g.B.Block.value c.args.rows.now c.args.count c.requires.count c.requires.whole_blocks
    in let fit = both_fit cols (parts cols) c.args.least c.loop-block-test.true c.read.ensures
    c.read-in-loop-block.ensures c.read-in-loop-block-2.ensures c.splat-from.ensures c.loop-block.invariant
    g.B.Block.GREATEST c.requires.fits
    in record { clocks_fit = fit.0; ends_fit = fit.1 }

pub loop-block-preserved : goal.loop-block-preserved
loop-block-preserved g c =
    let cols = columns_in g.B.Block.value c.args.rows.now c.args.count c.requires.count c.requires.whole_blocks
    in served_more cols (parts cols) c.args.least c.loop-block-test.true c.read.ensures c.read-in-loop-block.ensures
    c.read-in-loop-block-2.ensures c.splat-from.ensures c.loop-block.invariant c.serve-after.ensures.clocks_are
    c.serve-after.ensures.most_are

pub sums_before-requires-clause-fits : goal.sums_before-requires-clause-fits
sums_before-requires-clause-fits g c =
    let cols = columns_in g.B.Block.value c.args.rows.now c.args.count c.requires.count c.requires.whole_blocks
    in let past = c.loop-block-test.false
    in works_fit c.args.least cols (served_whole (omega (arith, past)) c.loop-block.invariant).clocks_are
    g.B.Block.GREATEST c.requires.fits

pub sum-requires : goal.sum-requires
sum-requires g c =
    let cols = columns_in g.B.Block.value c.args.rows.now c.args.count c.requires.count c.requires.whole_blocks
    in let past = c.loop-block-test.false
    in let served = served_whole (omega (arith, past)) c.loop-block.invariant
    in ends_fit c.args.least cols served.clocks_are c.sums_before.ensures served.most_are g.B.Block.GREATEST
    c.requires.fits

pub greatest_of-requires : goal.greatest_of-requires
greatest_of-requires g c =
    let cols = columns_in g.B.Block.value c.args.rows.now c.args.count c.requires.count c.requires.whole_blocks
    in let past = c.loop-block-test.false
    in let served = served_whole (omega (arith, past)) c.loop-block.invariant
    in ap length (ends_eight c.args.least cols served.clocks_are c.sums_before.ensures served.most_are c.sum.ensures)

pub returns : goal.returns
returns g c =
    let cols = columns_in g.B.Block.value c.args.rows.now c.args.count c.requires.count c.requires.whole_blocks
    in let past = c.loop-block-test.false
    in let served = served_whole (omega (arith, past)) c.loop-block.invariant
    in c.greatest_of.ensures
    ∙ ap greatest (ends_eight c.args.least cols served.clocks_are c.sums_before.ensures served.most_are c.sum.ensures)
    ∙ last_end c.args.least cols

pub serve-after-requires-clause-heads : goal.serve-after-requires-clause-heads
serve-after-requires-clause-heads g c = grind (arith, length-map, length-block)

pub serve-after-requires-clause-times : goal.serve-after-requires-clause-times
serve-after-requires-clause-times g c = grind (arith, length-map, length-block)

pub serve-after-requires-clause-tails : goal.serve-after-requires-clause-tails
serve-after-requires-clause-tails g c = grind (arith, length-map, length-block)
