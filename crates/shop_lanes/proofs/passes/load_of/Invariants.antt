use Rattle.std.proofs.Common.{◌/◌}
use Rattle.shop_lanes.{specs.Rows.lanes_in, proofs.ColumnTurns.{IsServedTo, part_of}}
use Rattle.shop_lanes.proofs.passes.load_of.Given as goal

abbrev pub invariant-loop-block : goal.invariant-loop-block
invariant-loop-block g l =
    IsServedTo l.fn.least (part_of (l.fn.count / 8) (lanes_in g.B.Block.value l.rows)) l.block
    (g.B.Block.numbers l.clocks) (g.B.Block.numbers l.most)
