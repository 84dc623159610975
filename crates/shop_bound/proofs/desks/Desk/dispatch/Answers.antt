use Rattle.std.proofs.Common.{◌++◌, ◌∷◌, [], List, ap, arith, length, refl, subst, sym}
use Rattle.shop_model.specs.{Word.{IsWord, none_placed}, declared.ops.Op.Op}
use Rattle.shop_bound.{specs.Desks.DeskState, proofs.DeskTurns.{can_dispatch, dispatched, replaced_is, replaced_many}}
use Rattle.shop_bound.proofs.{SmallJobs.small_last, WordLengths.room_left}
use Rattle.shop_bound.proofs.desks.Desk.dispatch.Goals as goal

pub steps-step-requires : goal.steps-step-requires
steps-step-requires c =
    let a = can_dispatch c.self.inside c.args.job c.self.invariant
    (subst (λ (s : DeskState). IsWord s.shop (s.word ++ c.args.job ∷ [])) (sym c.self.view_is) c.requires)
    in let job = a.job in let n = a.entries.steps in omega arith

pub route-requires : goal.route-requires
route-requires c = (can_dispatch c.self.inside c.args.job c.self.invariant
    (subst (λ (s : DeskState). IsWord s.shop (s.word ++ c.args.job ∷ [])) (sym c.self.view_is) c.requires)).job

pub bounds-route-step : goal.bounds-route-step
bounds-route-step c =
    let a = can_dispatch c.self.inside c.args.job c.self.invariant
    (subst (λ (s : DeskState). IsWord s.shop (s.word ++ c.args.job ∷ [])) (sym c.self.view_is) c.requires)
    in let e = ap (λ (xs : List Op). length xs) c.route.ensures.route in let k = c.steps-step.ensures
    in let below = a.operation in omega arith

pub offset_bounds-route-step : goal.offset_bounds-route-step
offset_bounds-route-step c = grind (arith, bounds-route-step)

pub overflow_cast-job : goal.overflow_cast-job
overflow_cast-job c =
    let small = small_last c.self.inside.instance.now c.self.inside.jobs.items c.args.job c.self.invariant.limits
    (subst (λ (s : DeskState). IsWord s.shop (s.word ++ c.args.job ∷ [])) (sym c.self.view_is) c.requires)
    in omega arith

pub unwrap-requires : goal.unwrap-requires
unwrap-requires c =
    let left = room_left c.self.inside.instance.now c.self.inside.jobs.items c.args.job
    (subst (λ (s : DeskState). IsWord s.shop (s.word ++ c.args.job ∷ [])) (sym c.self.view_is) c.requires)
    in let long = c.self.inside.jobs.ok.0 in let room = c.self.invariant.jobs_room
    in c.push.ensures.succeeds (omega arith)

pub unwrap-requires-2 : goal.unwrap-requires-2
unwrap-requires-2 c =
    let left = room_left c.self.inside.instance.now c.self.inside.jobs.items c.args.job
    (subst (λ (s : DeskState). IsWord s.shop (s.word ++ c.args.job ∷ [])) (sym c.self.view_is) c.requires)
    in let many = replaced_many c.self.inside.instance.now (none_placed c.self.inside.instance.now)
    c.self.inside.jobs.items
    c.self.inside.replaced.items c.self.invariant.replaced
    in let long = c.self.inside.replaced.ok.0 in let room = c.self.invariant.replaced_room
    in c.push-2.ensures.succeeds (omega arith)

pub invariant_of-self : goal.invariant_of-self
invariant_of-self c =
    let fits = subst (λ (s : DeskState). IsWord s.shop (s.word ++ c.args.job ∷ [])) (sym c.self.view_is) c.requires
    in dispatched c.self.inside c.args.job c.self.invariant fits _ refl
    (rw c.unwrap.ensures at c.push.ensures.items) (record { ready = c.ready-ready.result; free = c.free-free.result })
    (rw c.unwrap-2.ensures at c.push-2.ensures.items)
    (replaced_is c.self.inside c.args.job c.self.invariant fits c.route.result.now c.route.ensures.route
    c.steps-step.result
    c.steps-step.ensures c.ready-ready.result c.ready-ready.ensures c.free-free.result c.free-free.ensures)
    c.place_next-start.ensures.placed c.push.ensures.capacity c.push-2.ensures.capacity refl

pub ready-ready-requires : goal.ready-ready-requires
ready-ready-requires c =
    let a = can_dispatch c.self.inside c.args.job c.self.invariant
    (subst (λ (s : DeskState). IsWord s.shop (s.word ++ c.args.job ∷ [])) (sym c.self.view_is) c.requires)
    in let job = a.job in let n = a.entries.ready in omega arith
