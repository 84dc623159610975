use Rattle.std.proofs.{Common.{ℕ, List, ◌∙◌, ap, arith, length, refl}, lemmas.List.length-set}
use Rattle.shop_layout.proofs.Written.{written_vec}
use Rattle.shop_states.proofs.{CandidateDispatches.{candidate_can, candidate_told}, ReadStates.kept_read}
use Rattle.shop_states.proofs.AskedStates.{bound_there, kept_of, kept_on, told_behind}
use Rattle.shop_states.proofs.KeptRoom.{buffers_kept, room_behind, room_kept}
use Rattle.shop_states.proofs.{StateSteps.{known_position, stands}, Trials.its_job}
use Rattle.shop_states.specs.inner.WordStates.{of_word}
use Rattle.shop_states.proofs.dispatchers.Dispatcher.dispatch_below.Goals as goal

pub of-dispatch-requires : goal.of-dispatch-requires
of-dispatch-requires g c =
    let can = rw (← c.self.view_is) at c.requires.can
    in record {
      shop = c.self.inside.laid_out.shop;
      word = can.word;
      kept = kept_read c.grid-grid.ensures.grid refl (kept_of can.is.0).kept;
      fits = can.is.1.fits;
    }

pub advance_below-requires-clause-can : goal.advance_below-requires-clause-can
advance_below-requires-clause-can g c =
    let can = rw (← c.self.view_is) at c.requires.can
    in rw c.as_slice-next.ensures.value (candidate_can c.grid-grid.ensures.grid c.of-dispatch.ensures.job
    (kept_of can.is.0).kept can.is.1 (bound_there (kept_of can.is.0) can.bound_is) c.range_of-range.ensures.least
    c.self.invariant.machines (λ rows heads times tails m here known later above.
    absurd (let none = ap (λ (xs : List ℕ). length xs) c.range_of-range.ensures.ceilings in omega arith)))

pub advance_below-requires-clause-at_rest : goal.advance_below-requires-clause-at_rest
advance_below-requires-clause-at_rest g c = c.self.invariant.at_rest

pub returns-in_err-told-clause-dispatched : goal.returns-in_err-told-clause-dispatched
returns-in_err-told-clause-dispatched g c = rw (← c.self.view_is) (record {
  bounded = λ w of bound_is.
      let told = told_behind (kept_of of.0) c.args.candidate.job c.args.limit c.advance_below.result of.1.fits
      (candidate_told c.grid-grid.ensures.grid c.of-dispatch.ensures.job (kept_of of.0).kept of.1
      (bound_there (kept_of of.0) bound_is) c.range_of-range.ensures.least c.grid-grid.ensures.ready.limits c.args.limit
      c.range_of-range.ensures.limit c.advance_below.result
      (rw c.as_slice-next.ensures.value at c.advance_below.ensures.told))
      in grind arith;
  state = λ w of. grind arith;
})

pub set_next-requires-clause-job : goal.set_next-requires-clause-job
set_next-requires-clause-job g c =
    let can = rw (← c.self.view_is) at c.requires.can
    in rw c.as_mut_slice.ensures.value (its_job (kept_of can.is.0).kept c.args.candidate.job can.is.1.fits)

pub set_next-requires-clause-position : goal.set_next-requires-clause-position
set_next-requires-clause-position g c =
    let can = rw (← c.self.view_is) at c.requires.can
    in rw c.grid-grid.ensures.grid (known_position c.args.candidate.job (kept_of can.is.0).kept can.is.1.fits
    (rw c.of-dispatch.ensures.job at c.of-dispatch.ensures.is.position_is))

pub set_next-requires-clause-stands : goal.set_next-requires-clause-stands
set_next-requires-clause-stands g c =
    let can = rw (← c.self.view_is) at c.requires.can
    in rw c.grid-grid.ensures.grid (stands c.args.candidate.job (kept_of can.is.0).kept can.is.1.fits
    (rw c.of-dispatch.ensures.job at c.of-dispatch.ensures.is.position_is))

pub set_next-requires-clause-keep : goal.set_next-requires-clause-keep
set_next-requires-clause-keep g c = rw c.as_mut_slice.ensures.value (rw (
  c.of-dispatch.ensures.job,
  c.as_slice-next.ensures.value,
) at c.in_ok-told.ensures.ready.keep)

pub returns-clause-dispatched : goal.returns-clause-dispatched
returns-clause-dispatched g c = rw (← c.self.view_is) (record {
  bounded = λ w of bound_is.
      let told = told_behind (kept_of of.0) c.args.candidate.job c.args.limit c.advance_below.result of.1.fits
      (candidate_told c.grid-grid.ensures.grid c.of-dispatch.ensures.job (kept_of of.0).kept of.1
      (bound_there (kept_of of.0) bound_is) c.range_of-range.ensures.least c.grid-grid.ensures.ready.limits c.args.limit
      c.range_of-range.ensures.limit c.advance_below.result
      (rw c.as_slice-next.ensures.value at c.advance_below.ensures.told))
      in grind arith;
  state = λ w of.
      let ready = rw (c.grid-grid.ensures.grid, c.of-dispatch.ensures.job, c.as_slice-next.ensures.value)
      at c.in_ok-told.ensures.ready
      in let on = rw (c.grid-grid.ensures.grid, c.as_mut_slice.ensures.value) at c.set_next.ensures
      in let long = ap (λ (ns : List ℕ). length ns) c.set_next.ensures.are_next
      ∙ length-set c.as_mut_slice.result.now _ _
      in let whole = written_vec c.args.state.now.next c.as_mut_slice.result.now c.set_next.new.next
      c.as_mut_slice.ensures.value long
      in of_word (rw whole (kept_on (kept_of of.0)
      (ready.kept c.self.inside.laid_out.shop w (kept_of of.0).kept of.1.fits _ _ on)));
})

pub returns-clause-room : goal.returns-clause-room
returns-clause-room g c =
    let can = rw (← c.self.view_is) at c.requires.can
    in rw (← c.self.view_is) (record {
      room = room_behind (kept_of can.is.0) c.args.state.now.next refl c.as_mut_slice.ensures.value
          c.advance_below.ensures.positions c.advance_below.ensures.ends c.set_next.ensures;
    })

pub invariant_of-self : goal.invariant_of-self
invariant_of-self g c =
    buffers_kept c.self.invariant c.advance_below.ensures.machines c.advance_below.ensures.rest refl

pub invariant_of-self-2 : goal.invariant_of-self-2
invariant_of-self-2 g c =
    buffers_kept c.self.invariant c.advance_below.ensures.machines c.advance_below.ensures.rest refl

pub returns-in_err-told-clause-room : goal.returns-in_err-told-clause-room
returns-in_err-told-clause-room g c = record {
  room = room_kept (kept_of c.requires.can.is.0) _ _ _ c.advance_below.ensures.positions c.advance_below.ensures.ends
      refl;
}
