use Rattle.std.proofs.Common.{arith}
use Rattle.shop_lanes.proofs.{ColumnTurns.columns_in, ColumnScan.{works_fit, begins_fit, ends_fit}}
use Rattle.shop_lanes.proofs.OwnScan.{first_clocks, first_loads, last_clocks, last_loads}
use Rattle.shop_lanes.proofs.owning.own_spans_of.Goals as goal

pub sums_before-begins-requires-clause-fits : goal.sums_before-begins-requires-clause-fits
sums_before-begins-requires-clause-fits g c =
    let cols = columns_in g.B.Block.value c.args.rows.now c.args.count c.requires.count c.requires.can.whole_blocks
    in works_fit 1 cols c.note_columns-work.ensures.columns.clocks_are g.B.Block.GREATEST c.requires.can.fits.whole

pub sum-ends-requires : goal.sum-ends-requires
sum-ends-requires g c = grind (arith, columns_in, ends_fit)

pub sum-requires : goal.sum-requires
sum-requires g c = grind (arith, columns_in, begins_fit)

pub write_back-requires-clause-ends : goal.write_back-requires-clause-ends
write_back-requires-clause-ends g c =
    let cols = columns_in g.B.Block.value c.args.rows.now c.args.count c.requires.count c.requires.can.whole_blocks
    in let works = c.note_columns-work.ensures.columns.clocks_are
    in let loads = c.note_columns-work.ensures.columns.ends_are
    in let begins = c.sums_before-begins.ensures
    in record {
      begins = first_clocks cols works begins;
      before = first_loads cols works begins loads c.sum-ends.ensures c.greatest_before.ensures;
      clocks = last_clocks cols works begins c.sum.ensures;
      behind = last_loads cols works begins loads c.sum-ends.ensures g.B.Block.numbers c.greatest_behind.result
          c.greatest_behind.ensures;
    }
