use Rattle.std.proofs.Common.{arith, ◌∙◌, ap, length, refl, sym}
use Rattle.shop_layout.proofs.Written.{written_vec}
use Rattle.shop_bound.proofs.Renumbered.{numbers_alike}
use Rattle.shop_states.proofs.{AskedStates.kept_for, KeptRoom.long_kept, ReadStates.kept_read}
use Rattle.shop_states.specs.inner.WordStates.{of_word}
use Rattle.shop_states.proofs.dispatchers.Dispatcher.fill.Goals as goal

pub returns-clause-state : goal.returns-clause-state
returns-clause-state g c =
    let d = c.self.inside.laid_out
    in let room = rw (← c.self.view_is) at c.requires.room
    in let word = rw (← c.self.view_is) at c.requires.word
    in let alike = numbers_alike d.asked d.shop c.grid.ensures.limits
    c.grid.ensures.ready.limits c.grid.ensures.renumbered
    in let kept = c.fill_state.ensures c.args.path.now ((alike.words c.args.path.now).0 word)
    c.place_word.ensures.placed
    in let nexts = written_vec c.args.state.now.next c.as_mut_slice-next.result.now c.fill_state.new.next
    c.as_mut_slice-next.ensures.value (kept.are_next.jobs
    ∙ (sym room.room.jobs_with_nexts ∙ sym (ap length c.as_mut_slice-next.ensures.value)))
    in rw (← c.self.view_is) (of_word (kept_for alike (kept_read refl nexts kept) c.grid.ensures.limits))

pub invariant_of-self : goal.invariant_of-self
invariant_of-self g c = grind (arith, long_kept)

pub fill_state-requires-clause-of : goal.fill_state-requires-clause-of
fill_state-requires-clause-of g c = grind (arith, numbers_alike)
