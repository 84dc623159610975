use Rattle.std.proofs.Common.{◌/◌, map}
use Rattle.shop_lanes.{specs.Rows.lanes_in, proofs.OwnColumns.IsNotedTo}
use Rattle.shop_lanes.proofs.owning.note_columns.Given as goal

abbrev pub invariant-loop-block : goal.invariant-loop-block
invariant-loop-block g l =
    IsNotedTo (l.fn.count / 8) (lanes_in g.B.Block.value l.rows) l.block (g.B.Block.numbers l.clocks)
    (g.B.Block.numbers l.most) (map g.B.Block.value l.owns)
