use Rattle.std.proofs.Common.{refl}
use Rattle.shop_states.proofs.{AskedStates.kept_on, KeptRoom.room_kept, ReadStates.kept_read}
use Rattle.shop_states.proofs.AskedStates.{kept_of}
use Rattle.shop_states.specs.inner.WordStates.{of_word}
use Rattle.shop_states.proofs.dispatchers.Dispatcher.dispatch_settled.Goals as goal

pub of-dispatch-requires : goal.of-dispatch-requires
of-dispatch-requires g c =
    let has = rw (← c.self.view_is) at c.requires
    in record {
      shop = c.self.inside.laid_out.shop;
      word = has.word;
      kept = kept_read c.grid-grid.ensures.grid refl (kept_of has.is.0).kept;
      fits = has.is.1.fits;
    }

pub advance_unbounded-requires-clause-can : goal.advance_unbounded-requires-clause-can
advance_unbounded-requires-clause-can g c =
    let has = rw (← c.self.view_is) at c.requires
    in record {
      shop = c.self.inside.laid_out.shop;
      word = has.word;
      kept = kept_read c.grid-grid.ensures.grid refl (kept_of has.is.0).kept;
      fits = rw c.of-dispatch.ensures.job has.is.1.fits;
    }

pub returns-clause-state : goal.returns-clause-state
returns-clause-state g c = rw (← c.self.view_is) (λ w of. of_word (kept_on (kept_of of.0)
    (rw (c.grid-grid.ensures.grid, c.of-dispatch.ensures.job)
    at c.advance_unbounded.ensures.state c.self.inside.laid_out.shop w (kept_of of.0).kept of.1.fits)))

pub returns-clause-room : goal.returns-clause-room
returns-clause-room g c = record {
  room = room_kept (kept_of c.requires.is.0) _ _ _ c.advance_unbounded.ensures.room.positions
      c.advance_unbounded.ensures.room.jobs c.advance_unbounded.ensures.room.nexts;
}
