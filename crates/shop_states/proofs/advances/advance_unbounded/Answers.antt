use Rattle.std.proofs.{Common.{ℕ, List, ◌∙◌, ap, refl, arith, length}, lemmas.List.length-set}
use Rattle.shop_layout.proofs.Written.{written_vec}
use Rattle.shop_states.proofs.{KeptRoom.long_kept, StateSteps.{known_position, stands}}
use Rattle.shop_states.proofs.Trials.{can_delay, its_job, its_position, trial_keep, trial_kept}
use Rattle.shop_states.proofs.advances.advance_unbounded.Goals as goal

pub set_head-requires-clause-in_range : goal.set_head-requires-clause-in_range
set_head-requires-clause-in_range g c =
    its_position c.requires.can.kept c.args.dispatch.job c.requires.can.fits c.requires.is.position_is

pub raise_any-requires-clause-can : goal.raise_any-requires-clause-can
raise_any-requires-clause-can g c = rw c.as_mut_slice-next.ensures.value (can_delay c.requires.can.kept c.args.dispatch
    c.requires.can.fits c.requires.is c.set_head.ensures.heads c.set_head.ensures.ends)

pub set_next-requires-clause-job : goal.set_next-requires-clause-job
set_next-requires-clause-job g c = rw c.as_mut_slice-next.ensures.value
    (its_job c.requires.can.kept c.args.dispatch.job c.requires.can.fits)

pub set_next-requires-clause-position : goal.set_next-requires-clause-position
set_next-requires-clause-position g c =
    known_position c.args.dispatch.job c.requires.can.kept c.requires.can.fits c.requires.is.position_is

pub set_next-requires-clause-stands : goal.set_next-requires-clause-stands
set_next-requires-clause-stands g c =
    stands c.args.dispatch.job c.requires.can.kept c.requires.can.fits c.requires.is.position_is

pub set_next-requires-clause-keep : goal.set_next-requires-clause-keep
set_next-requires-clause-keep g c =
    let raised = rw c.as_mut_slice-next.ensures.value at c.raise_any.ensures.raises
    in rw c.as_mut_slice-next.ensures.value (trial_keep c.requires.can.kept c.args.dispatch.job
    c.requires.can.fits c.requires.is.position_is c.requires.is.machine_is c.requires.is.end_is
    c.set_head.ensures.heads c.set_head.ensures.ends raised refl)

pub returns-clause-state : goal.returns-clause-state
returns-clause-state g c = λ shop w kept fits.
    let raised = rw c.as_mut_slice-next.ensures.value at c.raise_any.ensures.raises
    in let on = rw c.as_mut_slice-next.ensures.value at c.set_next.ensures
    in let long = ap (λ (ns : List ℕ). length ns) c.set_next.ensures.are_next
    ∙ length-set c.as_mut_slice-next.result.now _ _
    in let whole = written_vec c.args.state.now.next c.as_mut_slice-next.result.now c.set_next.new.next
    c.as_mut_slice-next.ensures.value long
    in rw whole (trial_kept kept c.args.dispatch.job fits c.requires.is.position_is c.requires.is.machine_is
    c.requires.is.end_is c.set_head.ensures.heads c.set_head.ensures.ends raised on.are_next on.ends)

pub returns-clause-room : goal.returns-clause-room
returns-clause-room g c = grind (arith, long_kept, length-set)
