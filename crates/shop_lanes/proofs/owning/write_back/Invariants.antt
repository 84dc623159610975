use Rattle.std.proofs.Common.{◌/◌, map}
use Rattle.shop_lanes.{specs.Rows.lanes_in, proofs.OwnColumns.IsBackTo}
use Rattle.shop_lanes.proofs.owning.write_back.Given as goal

abbrev pub invariant-loop-block : goal.invariant-loop-block
invariant-loop-block g l =
    let row = map g.B.Block.value
    in IsBackTo (l.fn.count / 8) (row l.rows.heads.now) (row l.rows.times.now) (row l.rows.tails.now)
    (lanes_in g.B.Block.value l.rows) l.block (g.B.Block.numbers l.clocks) (g.B.Block.numbers l.behind)
    (row l.owns)

abbrev pub decreases-loop-block : goal.decreases-loop-block
decreases-loop-block g l = l.block
