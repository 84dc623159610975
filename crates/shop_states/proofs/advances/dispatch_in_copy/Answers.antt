use Rattle.std.proofs.{Common.{ℕ, List, ◌∙◌, ap, arith, length}, lemmas.List.length-set}
use Rattle.shop_layout.proofs.Written.{written_vec}
use Rattle.shop_states.proofs.{KeptRoom.long_kept, StateSteps.{known_position, stands}, Trials.its_job}
use Rattle.shop_states.proofs.advances.dispatch_in_copy.Goals as goal

pub returns-in_err-bound-clause-told : goal.returns-in_err-bound-clause-told
returns-in_err-bound-clause-told g c = λ shop w is.
    let told = rw (
      c.copy_from.ensures.heads,
      c.copy_from.ensures.ends,
      c.as_slice-next.ensures.value,
      c.of-dispatch.ensures.job,
    ) at c.in_err-bound.ensures.told shop w is
    in grind arith

pub set_next-requires-clause-job : goal.set_next-requires-clause-job
set_next-requires-clause-job g c = rw (c.copy_from_slice.ensures.after, c.as_slice-next.ensures.value)
    (its_job c.requires.can.is.kept c.args.job c.requires.can.is.fits)

pub returns-clause-told : goal.returns-clause-told
returns-clause-told g c = λ shop w is. rw (
  c.copy_from.ensures.heads,
  c.copy_from.ensures.ends,
  c.as_slice-next.ensures.value,
  c.of-dispatch.ensures.job,
) at c.in_ok-bound.ensures.told shop w is

pub returns-clause-state : goal.returns-clause-state
returns-clause-state g c = λ shop w kept fits.
    let ready = rw (
      c.copy_from.ensures.heads,
      c.copy_from.ensures.ends,
      c.as_slice-next.ensures.value,
      c.of-dispatch.ensures.job,
    ) at c.in_ok-bound.ensures.ready
    in let on = rw (c.copy_from_slice.ensures.after, c.as_slice-next.ensures.value) at c.set_next.ensures
    in let long = ap (λ (ns : List ℕ). length ns) c.set_next.ensures.are_next
    ∙ length-set c.copy_from_slice.new.self _ _ ∙ c.copy_from_slice.ensures.len
    in let whole = written_vec c.args.to.now.next c.as_mut_slice-copied.result.now c.set_next.new.next
    c.as_mut_slice-copied.ensures.value long
    in rw whole (ready.kept shop w kept fits _ _ on)

pub set_next-requires-clause-position : goal.set_next-requires-clause-position
set_next-requires-clause-position g c =
    known_position c.args.job c.requires.can.is.kept c.requires.can.is.fits
    (rw c.of-dispatch.ensures.job at c.of-dispatch.ensures.is.position_is)

pub set_next-requires-clause-stands : goal.set_next-requires-clause-stands
set_next-requires-clause-stands g c =
    stands c.args.job c.requires.can.is.kept c.requires.can.is.fits
    (rw c.of-dispatch.ensures.job at c.of-dispatch.ensures.is.position_is)

pub returns-clause-room : goal.returns-clause-room
returns-clause-room g c = grind (arith, long_kept, length-set)
