use Rattle.std.proofs.{Common.{List, length, ◌<◌, ap, arith, rules}, lemmas.List.Sums.sum_by-take-le}
use Rattle.shop_model.specs.declared.ops.Op.{Op}
use Rattle.shop_bound.proofs.MachineListTurns.{one_cleared, one_listed, room_for_rest}
use Rattle.shop_bound.proofs.UnplacedTurns.{steps_within, can_go_on, unplaced_of_job, rest_is}
use Rattle.shop_bound.proofs.machine_lists.list_unplaced.Goals as goal

pub offset_bounds-route-steps : goal.offset_bounds-route-steps
offset_bounds-route-steps c =
    let shop = c.args.instance.now in let j = c.loop-j.j
    in let a = steps_within shop c.args.placement.now c.requires.word j
    (let a = c.loop-j-test.true in let b = c.jobs-j-end.ensures in omega arith)
    c.steps.result c.steps.ensures c.route.result.now c.route.ensures.route
    in let b = ap (λ (xs : List Op). length xs) c.route.ensures.route
    in let d = c.route.ensures.limits.routes j in omega arith

pub slice_bounds-rest-count : goal.slice_bounds-rest-count
slice_bounds-rest-count c =
    let shop = c.args.instance.now in let j = c.loop-j.j
    in steps_within shop c.args.placement.now c.requires.word j (let a =
    c.loop-j-test.true in let b = c.jobs-j-end.ensures in omega arith)
    c.steps.result c.steps.ensures c.route.result.now c.route.ensures.route

pub slice_bounds-rest-start : goal.slice_bounds-rest-start
slice_bounds-rest-start c =
    let shop = c.args.instance.now in let j = c.loop-j.j
    in let a = steps_within shop c.args.placement.now c.requires.word j
    (let a = c.loop-j-test.true in let b = c.jobs-j-end.ensures in omega arith)
    c.steps.result c.steps.ensures c.route.result.now c.route.ensures.route
    in search rules

pub add_rest-requires-clause-rest : goal.add_rest-requires-clause-rest
add_rest-requires-clause-rest c =
    let shop = c.args.instance.now in let s = c.args.placement.now in let j = c.loop-j.j
    in let job : j < length shop.jobs = (let a = c.loop-j-test.true in let b = c.jobs-j-end.ensures in omega arith)
    in can_go_on shop c.route.ensures.limits s c.requires.word j job c.machines_free-free.result.now
    c.machines_free-free.ensures
    c.ready.result c.ready.ensures _ (rest_is _ _ _ _ c.route.ensures.route c.steps.ensures)

pub add_rest-requires-clause-room : goal.add_rest-requires-clause-room
add_rest-requires-clause-room c =
    let shop = c.args.instance.now in let j = c.loop-j.j
    in let job : j < length shop.jobs = (let a = c.loop-j-test.true in let b = c.jobs-j-end.ensures in omega arith)
    in room_for_rest shop c.args.placement.now j c.loop-j.lists c.loop-j.invariant job _ _
    (rest_is _ _ _ _ c.route.ensures.route c.steps.ensures)

pub loop-m-preserved : goal.loop-m-preserved
loop-m-preserved c = search (rules, one_cleared)

pub loop-j-preserved : goal.loop-j-preserved
loop-j-preserved c =
    let shop = c.args.instance.now in let s = c.args.placement.now in let j = c.loop-j.j
    in let job : j < length shop.jobs = (let a = c.loop-j-test.true in let b = c.jobs-j-end.ensures in omega arith)
    in let rest = rest_is _ _ _ _ c.route.ensures.route c.steps.ensures
    in one_listed shop s j c.loop-j.lists c.loop-j.invariant job c.add_rest.new.lists c.machines_free-free.result.now
    c.ready.result _ _ rest
    (λ m p is. unplaced_of_job m shop c.route.ensures.limits s j job c.machines_free-free.result.now
    c.machines_free-free.ensures c.ready.result c.ready.ensures _ rest p is)
    c.add_rest.ensures.added c.add_rest.ensures.room c.add_rest.auto.lists

pub returns-clause-few : goal.returns-clause-few
returns-clause-few c = grind (arith, sum_by-take-le)
