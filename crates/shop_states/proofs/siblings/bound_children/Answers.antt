use Rattle.std.proofs.Common.{◌∙◌, refl, arith}
use Rattle.shop_states.proofs.ChildrenBounds.{bound_small, children_can, children_known, children_settled}
use Rattle.shop_states.proofs.{ChildrenBounds.{late_raises_fit, machine_blocks}, LateHeads.can_end}
use Rattle.shop_states.proofs.Trials.{same_machines}
use Rattle.shop_states.proofs.siblings.bound_children.Goals as goal

pub latest_of-latest-requires-clause-can : goal.latest_of-latest-requires-clause-can
latest_of-latest-requires-clause-can g c = λ i here. rw c.routes-routes.ensures
    (can_end c.requires.can.kept c.requires.can.siblings (record { at = i; within = here; is = refl }))

pub offset_bounds-next-latest : goal.offset_bounds-next-latest
offset_bounds-next-latest g c =
    let end = can_end c.requires.can.kept c.requires.can.siblings c.latest_of-latest.ensures.last
    in let job = end.job in omega arith

pub bounds-next-latest : goal.bounds-next-latest
bounds-next-latest g c = (can_end c.requires.can.kept c.requires.can.siblings c.latest_of-latest.ensures.last).job

pub machine-machine-requires : goal.machine-machine-requires
machine-machine-requires g c =
    let end = can_end c.requires.can.kept c.requires.can.siblings c.latest_of-latest.ensures.last
    in let position = end.position in let kept = c.requires.can.kept.kept
    in let heads = kept.heads.positions in let machines = kept.laid.machines_at.positions
    in rw c.routes-routes.ensures (omega arith)

pub blocks_of-from-requires : goal.blocks_of-from-requires
blocks_of-from-requires g c =
    let latest = rw c.routes-routes.ensures at c.latest_of-latest.ensures
    in let on = rw c.routes-routes.ensures at c.machine-machine.ensures
    in let blocks = machine_blocks c.requires.can.kept c.requires.can.siblings latest on
    in let small = blocks.small
    in record { even = c.fixed_blocks_each.ensures.even; small = omega arith; known = blocks.known }

pub raise_late-raised-requires-clause-can : goal.raise_late-raised-requires-clause-can
raise_late-raised-requires-clause-can g c =
    let latest = rw c.routes-routes.ensures at c.latest_of-latest.ensures
    in let on = rw c.routes-routes.ensures at c.machine-machine.ensures
    in rw c.routes-routes.ensures (children_can c.requires.can.kept c.requires.can.siblings latest on
    c.blocks_of-from.ensures.first c.blocks_of-from.ensures.behind)

pub raise_late-raised-requires-clause-known : goal.raise_late-raised-requires-clause-known
raise_late-raised-requires-clause-known g c = rw c.routes-routes.ensures (λ q here.
    let a = c.requires.can.kept.kept.laid.machines_at.known q here
    in let b = c.requires.can.machines_are in omega arith)

pub take_ceilings-requires-clause-least : goal.take_ceilings-requires-clause-least
take_ceilings-requires-clause-least g c =
    let latest = rw c.routes-routes.ensures at c.latest_of-latest.ensures
    in let on = rw c.routes-routes.ensures at c.machine-machine.ensures
    in let small = bound_small c.requires.can.kept c.requires.can.siblings latest on
    in let is = c.requires.can.bound_is in omega arith

pub take_ceilings-requires-clause-can : goal.take_ceilings-requires-clause-can
take_ceilings-requires-clause-can g c =
    let latest = rw c.routes-routes.ensures at c.latest_of-latest.ensures
    in let on = rw c.routes-routes.ensures at c.machine-machine.ensures
    in let late = rw c.routes-routes.ensures at c.raise_late-raised.ensures
    in let kept = c.requires.can.kept.kept
    in let long = late.raises.raised.positions in let heads = kept.heads.positions
    in let times = kept.laid.positions.times in let tails = kept.laid.positions.tails
    in record {
      listed = c.raise_late-raised.ensures.listed;
      times = omega arith;
      tails = omega arith;
      fits = late_raises_fit c.requires.can.kept c.requires.can.siblings latest on c.blocks_of-from.ensures.first
          c.blocks_of-from.ensures.behind late.raises c.requires.at_rest c.requires.can.machines_are late.noted;
    }

pub returns-clause-known : goal.returns-clause-known
returns-clause-known g c = λ shop w kept siblings bound_is i here.
    let latest = rw c.routes-routes.ensures at c.latest_of-latest.ensures
    in let on = rw c.routes-routes.ensures at c.machine-machine.ensures
    in let late = rw c.routes-routes.ensures at c.raise_late-raised.ensures
    in children_known kept siblings latest on c.blocks_of-from.ensures.first c.blocks_of-from.ensures.behind
    late.raises c.requires.at_rest (c.requires.can.machines_are ∙ same_machines c.requires.can.kept.kept.laid
    kept.kept.laid) late.noted bound_is c.take_ceilings.ensures.bounds i here

pub returns-clause-settled : goal.returns-clause-settled
returns-clause-settled g c = λ shop w kept siblings bound_is i least here advancing enough.
    let latest = rw c.routes-routes.ensures at c.latest_of-latest.ensures
    in let on = rw c.routes-routes.ensures at c.machine-machine.ensures
    in let late = rw c.routes-routes.ensures at c.raise_late-raised.ensures
    in let many = c.requires.can.machines_are ∙ same_machines c.requires.can.kept.kept.laid kept.kept.laid
    in children_settled kept siblings latest on c.blocks_of-from.ensures.first c.blocks_of-from.ensures.behind
    late.raises c.requires.at_rest many late.noted bound_is c.take_ceilings.ensures.bounds
    (c.take_ceilings.ensures.long ∙ (c.requires.room ∙ many)) i least here advancing (omega arith)
