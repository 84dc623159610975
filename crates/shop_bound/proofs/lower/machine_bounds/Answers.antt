use Rattle.std.proofs.{Common.arith, lemmas.{Grind.common_steps, List.take_all}}
use Rattle.shop_bound.proofs.LowerBounds.{lists_few, lists_small, lists_bounds}
use Rattle.shop_bound.proofs.lower.machine_bounds.Goals as goal

pub bound-requires-clause-room : goal.bound-requires-clause-room
bound-requires-clause-room c =
    let each = lists_few c.args.instance.now c.keeps_limits.ensures c.args.word.now c.requires
    c.in_ok-placement.placement c.in_ok-placement.ensures c.list_unplaced.new.lists c.list_unplaced.ensures.room
    c.list_unplaced.ensures.unplaced c.in_ok-lists.field-0.jackson.room c.in_ok-lists.ensures.schedule
    c.list_unplaced.ensures.few
    in grind (arith, each)

pub bound-requires-clause-small : goal.bound-requires-clause-small
bound-requires-clause-small c =
    let each = lists_small c.args.instance.now c.keeps_limits.ensures c.args.word.now c.requires
    c.in_ok-placement.placement c.in_ok-placement.ensures c.list_unplaced.new.lists c.list_unplaced.ensures.room
    c.list_unplaced.ensures.unplaced
    in grind (arith, each)

pub returns-clause-bounds : goal.returns-clause-bounds
returns-clause-bounds c =
    lists_bounds c.args.instance.now c.keeps_limits.ensures c.args.word.now c.requires c.in_ok-placement.placement
    c.in_ok-placement.ensures c.list_unplaced.new.lists c.list_unplaced.ensures.room c.list_unplaced.ensures.unplaced
    c.loop-m.bounds.items (grind (arith, take_all))

pub loop-m-preserved : goal.loop-m-preserved
loop-m-preserved c = grind (arith, common_steps)
