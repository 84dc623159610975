use Rattle.std.proofs.Common.{rules, ap, arith, length, sym, ◌∙◌}
use Rattle.shop_model.specs.Shop.{Shop, route_of}
use Rattle.shop_states.proofs.{JobLegs.first_small, PlacedNexts.{begins_behind}}
use Rattle.shop_states.proofs.placing.place_none.Goals as goal

pub overflow_cast-next_legs : goal.overflow_cast-next_legs
overflow_cast-next_legs g c = grind (arith, first_small)

pub overflow_add-first-in-loop-job : goal.overflow_add-first-in-loop-job
overflow_add-first-in-loop-job g c =
    let known = c.loop-job-test.true in let jobs = c.requires.next
    in let count = ap length c.route.ensures.route
    ∙ (ap (λ (shop : Shop). length (route_of shop c.loop-job.job)) c.instance-instance.ensures.instance
    ∙ sym (c.instance-instance.ensures.renumbered.steps c.loop-job.job))
    in let behind = (begins_behind c.grid.ensures.ready.limits c.grid.ensures.ready.laid (omega arith) count
    c.loop-job.invariant.first_is).1
    in omega arith

pub loop-job-preserved : goal.loop-job-preserved
loop-job-preserved g c = search (rules, begins_behind)
