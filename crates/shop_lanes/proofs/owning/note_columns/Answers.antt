use Rattle.std.proofs.{Common.arith, lemmas.List.length-map}
use Rattle.shop_lanes.proofs.{BlockMasks.length-block, ColumnTurns.{columns_in, parts, both_fit, served_more}}
use Rattle.shop_lanes.proofs.OwnColumns.{note_more}
use Rattle.shop_lanes.proofs.owning.note_columns.Goals as goal

pub serve-after-requires-clause-fits : goal.serve-after-requires-clause-fits
serve-after-requires-clause-fits g c =
    let cols = columns_in g.B.Block.value c.args.rows.now c.args.count c.requires.count c.requires.can.whole_blocks
    in let fit = both_fit cols (parts cols) 1 c.loop-block-test.true c.read.ensures c.read-in-loop-block.ensures
    c.read-in-loop-block-2.ensures c.splat-one.ensures c.loop-block.invariant.served g.B.Block.GREATEST
    c.requires.can.fits.whole
    in record { clocks_fit = fit.0; ends_fit = fit.1 }

pub loop-block-preserved : goal.loop-block-preserved
loop-block-preserved g c =
    let cols = columns_in g.B.Block.value c.args.rows.now c.args.count c.requires.count c.requires.can.whole_blocks
    in note_more c.loop-block-test.true c.loop-block.invariant c.store.ensures
    (served_more cols (parts cols) 1 c.loop-block-test.true c.read.ensures c.read-in-loop-block.ensures
    c.read-in-loop-block-2.ensures c.splat-one.ensures c.loop-block.invariant.served c.serve-after.ensures.clocks_are
    c.serve-after.ensures.most_are)

pub serve-after-requires-clause-heads : goal.serve-after-requires-clause-heads
serve-after-requires-clause-heads g c = grind (arith, length-map, length-block)

pub serve-after-requires-clause-times : goal.serve-after-requires-clause-times
serve-after-requires-clause-times g c = grind (arith, length-map, length-block)

pub serve-after-requires-clause-tails : goal.serve-after-requires-clause-tails
serve-after-requires-clause-tails g c = grind (arith, length-map, length-block)

pub loop-block-init : goal.loop-block-init
loop-block-init g c = grind (arith, length-map)
