use Rattle.std.proofs.Common.{◌+◌, arith, rules}
use Rattle.shop_lanes.proofs.LeapTurns.{leaps_end, leaps_reached, leaps_within, leaps_past, load_fits, leap}
use Rattle.shop_lanes.proofs.AnyOrder.{nearest_in, next_head}
use Rattle.shop_lanes.proofs.leaps.leap.Goals as goal

pub overflow_add-upto : goal.overflow_add-upto
overflow_add-upto g c =
    grind (arith, load_fits c.loop-settled.invariant c.load_of-load.ensures g.B.Block.GREATEST c.requires.can.fits)

pub overflow_add-head-in-loop-settled-2 : goal.overflow_add-head-in-loop-settled-2
overflow_add-head-in-loop-settled-2 g c =
    grind (arith, load_fits c.loop-settled.invariant c.load_of-load.ensures g.B.Block.GREATEST c.requires.can.fits)

pub returns-then-upto-load : goal.returns-then-upto-load
returns-then-upto-load g c = search (rules, leaps_within)

pub returns-then-ahead-upto : goal.returns-then-ahead-upto
returns-then-ahead-upto g c = leaps_past c.loop-settled.invariant c.load_of-load.ensures g.B.Block.GREATEST
    (nearest_in g.B.Block.value c.args.rows.now c.requires.can.whole_blocks g.B.Block.GREATEST
    (c.loop-settled.settled + 1) c.nearest_of-ahead.result
    (let below = c.requires.can.below in let left = c.loop-settled-test.true in omega arith) c.nearest_of-ahead.ensures)
    (let far = c.if-ahead-upto.true in let below = c.requires.can.below in omega arith) c.args.limit

pub returns-then-bound-limit : goal.returns-then-bound-limit
returns-then-bound-limit g c = leaps_reached (leap c.loop-settled.invariant c.load_of-load.ensures g.B.Block.GREATEST
    (next_head g.B.Block.value c.args.rows.now c.requires.can.whole_blocks g.B.Block.GREATEST
    (c.loop-settled.settled + 1) c.nearest_of-ahead.result c.args.range.upto c.requires.can.below
    c.nearest_of-ahead.ensures (let near = c.if-ahead-upto.false in let left = c.loop-settled-test.true in omega arith))
    c.loop-settled-test.true (let near = c.if-ahead-upto.false in let left = c.loop-settled-test.true in omega arith)
    c.requires.can.below c.max-bound.result (search rules)) c.args.limit c.if-bound-limit.true

pub loop-settled-preserved : goal.loop-settled-preserved
loop-settled-preserved g c = leap c.loop-settled.invariant c.load_of-load.ensures g.B.Block.GREATEST
    (next_head g.B.Block.value c.args.rows.now c.requires.can.whole_blocks g.B.Block.GREATEST
    (c.loop-settled.settled + 1) c.nearest_of-ahead.result c.args.range.upto c.requires.can.below
    c.nearest_of-ahead.ensures (let near = c.if-ahead-upto.false in let left = c.loop-settled-test.true in omega arith))
    c.loop-settled-test.true (let near = c.if-ahead-upto.false in let left = c.loop-settled-test.true in omega arith)
    c.requires.can.below c.max-bound.result (search rules)

pub returns : goal.returns
returns g c = grind (arith, leaps_end c.loop-settled.invariant c.loop-settled-test.false c.args.limit)
