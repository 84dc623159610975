use Rattle.std.proofs.Common.{◌∙◌, refl, sym}
use Rattle.shop_states.proofs.CandidateDispatches.{candidate_can, candidate_kept, candidate_told, its_ceilings}
use Rattle.shop_states.proofs.AskedStates.{bound_there, kept_of, state_on, told_behind}
use Rattle.shop_states.proofs.KeptRoom.{buffers_kept, room_kept, room_of}
use Rattle.shop_states.proofs.dispatchers.Dispatcher.dispatch_in_copy.Goals as goal

pub dispatch_in_copy-requires-clause-can : goal.dispatch_in_copy-requires-clause-can
dispatch_in_copy-requires-clause-can g c =
    let can = rw (← c.self.view_is) at c.requires.can
    in candidate_can c.grid-grid.ensures.grid refl (kept_of can.is.0.0).kept can.is.0.1
    (bound_there (kept_of can.is.0.0) can.bound_is) c.range_of-range.ensures.least c.self.invariant.machines
    (rw c.range_of-range.ensures.ceilings (its_ceilings _
    (rw c.as_slice.ensures.value at c.ceilings_if-ceilings.ensures.known) c.ceilings_if-ceilings.ensures.unknown
    can.is.1))

pub returns-clause-dispatched : goal.returns-clause-dispatched
returns-clause-dispatched g c = rw (← c.self.view_is) (record {
  bounded = λ w of bound_is. told_behind (kept_of of.0) c.args.candidate.job c.args.limit
      c.dispatch_in_copy.result of.1.fits (candidate_told c.grid-grid.ensures.grid refl (kept_of of.0).kept of.1
      (bound_there (kept_of of.0) bound_is) c.range_of-range.ensures.least c.grid-grid.ensures.ready.limits c.args.limit
      c.range_of-range.ensures.limit c.dispatch_in_copy.result c.dispatch_in_copy.ensures.told);
  state = λ w of. state_on g.L.StateLanes (kept_of of.0) _ _ c.dispatch_in_copy.result
      (candidate_kept c.grid-grid.ensures.grid refl (kept_of of.0).kept of.1.fits c.dispatch_in_copy.result _ _ _
      c.dispatch_in_copy.ensures.state);
})

pub invariant_of-self : goal.invariant_of-self
invariant_of-self g c =
    buffers_kept c.self.invariant c.dispatch_in_copy.ensures.machines c.dispatch_in_copy.ensures.rest refl

pub dispatch_in_copy-requires-clause-long : goal.dispatch_in_copy-requires-clause-long
dispatch_in_copy-requires-clause-long g c =
    let from = (room_of c.requires.can.is.0.0).room in let to = c.requires.to.room
    in record {
      positions = to.positions ∙ sym from.positions;
      jobs = to.jobs_with_ends ∙ sym from.jobs_with_ends;
      nexts = to.jobs_with_nexts ∙ sym from.jobs_with_nexts;
    }

pub returns-clause-room : goal.returns-clause-room
returns-clause-room g c = record {
  room = room_kept (kept_of c.requires.can.is.0.0) _ _ _ c.dispatch_in_copy.ensures.room.positions
      c.dispatch_in_copy.ensures.room.jobs c.dispatch_in_copy.ensures.room.nexts;
}
