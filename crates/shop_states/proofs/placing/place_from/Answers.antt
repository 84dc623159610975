use Rattle.std.proofs.{Common.{◌∙◌, arith, refl}, lemmas.List.take_all}
use Rattle.shop_states.proofs.PlacedNexts.{can_place_entry, entry_placed}
use Rattle.shop_states.proofs.placing.place_from.Goals as goal

pub bounds-next_legs-job : goal.bounds-next_legs-job
bounds-next_legs-job g c = (can_place_entry c.grid.ensures.ready.limits c.grid.ensures.ready.laid _ c.requires.word _
    c.loop-index-test.true c.loop-index.invariant (c.routes-routes.ensures ∙ c.grid.ensures.grid)).next

pub leg-leg-requires : goal.leg-leg-requires
leg-leg-requires g c = (can_place_entry c.grid.ensures.ready.limits c.grid.ensures.ready.laid _ c.requires.word _
    c.loop-index-test.true c.loop-index.invariant (c.routes-routes.ensures ∙ c.grid.ensures.grid)).leg

pub bounds-ready-job : goal.bounds-ready-job
bounds-ready-job g c = (can_place_entry c.grid.ensures.ready.limits c.grid.ensures.ready.laid _ c.requires.word _
    c.loop-index-test.true c.loop-index.invariant (c.routes-routes.ensures ∙ c.grid.ensures.grid)).job

pub bounds-free-machine : goal.bounds-free-machine
bounds-free-machine g c = (can_place_entry c.grid.ensures.ready.limits c.grid.ensures.ready.laid
    _ c.requires.word _ c.loop-index-test.true c.loop-index.invariant
    (c.routes-routes.ensures ∙ c.grid.ensures.grid)).machine c.leg-leg.result c.leg-leg.ensures

pub overflow_add-end : goal.overflow_add-end
overflow_add-end g c =
    let small = (can_place_entry c.grid.ensures.ready.limits c.grid.ensures.ready.laid
    _ c.requires.word _ c.loop-index-test.true c.loop-index.invariant
    (c.routes-routes.ensures ∙ c.grid.ensures.grid)).small c.leg-leg.result c.leg-leg.ensures
    in let most = c.max.ensures in omega arith

pub bounds-next_legs-job-in-loop-index : goal.bounds-next_legs-job-in-loop-index
bounds-next_legs-job-in-loop-index g c =
    (can_place_entry c.grid.ensures.ready.limits c.grid.ensures.ready.laid _ c.requires.word _
    c.loop-index-test.true c.loop-index.invariant (c.routes-routes.ensures ∙ c.grid.ensures.grid)).next

pub overflow_add-next_legs : goal.overflow_add-next_legs
overflow_add-next_legs g c =
    let few = (can_place_entry c.grid.ensures.ready.limits c.grid.ensures.ready.laid _ c.requires.word _
    c.loop-index-test.true c.loop-index.invariant (c.routes-routes.ensures ∙ c.grid.ensures.grid)).few in omega arith

pub bounds-next_legs-job-in-loop-index-2 : goal.bounds-next_legs-job-in-loop-index-2
bounds-next_legs-job-in-loop-index-2 g c =
    (can_place_entry c.grid.ensures.ready.limits c.grid.ensures.ready.laid _ c.requires.word _
    c.loop-index-test.true c.loop-index.invariant (c.routes-routes.ensures ∙ c.grid.ensures.grid)).next

pub bounds-ready-job-in-loop-index : goal.bounds-ready-job-in-loop-index
bounds-ready-job-in-loop-index g c =
    (can_place_entry c.grid.ensures.ready.limits c.grid.ensures.ready.laid _ c.requires.word _
    c.loop-index-test.true c.loop-index.invariant (c.routes-routes.ensures ∙ c.grid.ensures.grid)).job

pub bounds-free-machine-in-loop-index : goal.bounds-free-machine-in-loop-index
bounds-free-machine-in-loop-index g c = (can_place_entry c.grid.ensures.ready.limits c.grid.ensures.ready.laid
    _ c.requires.word _ c.loop-index-test.true c.loop-index.invariant
    (c.routes-routes.ensures ∙ c.grid.ensures.grid)).machine c.leg-leg.result c.leg-leg.ensures

pub loop-index-preserved : goal.loop-index-preserved
loop-index-preserved g c = entry_placed c.grid.ensures.ready.limits c.grid.ensures.ready.laid
    _ c.requires.word _ c.loop-index-test.true c.loop-index.invariant
    (c.routes-routes.ensures ∙ c.grid.ensures.grid) c.leg-leg.ensures c.max.ensures refl

pub returns : goal.returns
returns g c = rw (take_all c.loop-index.index c.args.path.now c.loop-index-test.false) at c.loop-index.invariant
