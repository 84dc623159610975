use Rattle.std.proofs.Common.{◌∙◌, refl}
use Rattle.shop_states.specs.inner.WordStates.{IsStateWith}
use Rattle.search_tests.proofs.TwoDispatches.{told_both}
use Rattle.search_tests.proofs.copies.dispatch_twice.Goals as goal

pub dispatch_at_once-again-requires-clause-can : goal.dispatch_at_once-again-requires-clause-can
dispatch_at_once-again-requires-clause-can g c = rw c.dispatch_below-told.ensures.same (record {
  word = c.args.path.now;
  is = (c.requires.state, c.requires.known);
  fits = c.requires.fits;
  bound_is = c.requires.bound;
})

pub returns-clause-told : goal.returns-clause-told
returns-clause-told g c =
    let once = rw c.dispatch_below-told.ensures.same at c.dispatch_at_once-again.ensures.dispatched
    in once.bounded c.args.path.now c.requires.state c.requires.bound

pub returns-clause-same : goal.returns-clause-same
returns-clause-same g c =
    let once = rw c.dispatch_below-told.ensures.same at c.dispatch_at_once-again.ensures.dispatched
    in once.state c.args.path.now c.requires.state

pub returns-clause-placed : goal.returns-clause-placed
returns-clause-placed g c =
    let below = c.dispatch_below-told.ensures.dispatched
    in let once = rw c.dispatch_below-told.ensures.same at c.dispatch_at_once-again.ensures.dispatched
    in let with : IsStateWith g.L.StateLanes c.args.dispatcher.now.laid_out c.args.trial.candidate
    c.args.rooms.now.placed c.args.path.now = (c.requires.placed, c.requires.state.1)
    in told_both _ _ _ c.dispatch_below-told.result c.dispatch_at_once-again.result
    (below.bounded c.args.path.now with c.requires.bound)
    (once.bounded c.args.path.now c.requires.state c.requires.bound) (below.state c.args.path.now with)

pub returns-clause-alike : goal.returns-clause-alike
returns-clause-alike g c =
    c.dispatch_settled.ensures.state c.args.path.now (c.requires.settled, c.requires.state.1)

pub returns-clause-room : goal.returns-clause-room
returns-clause-room g c = c.dispatch_below-told.ensures.room

pub returns-clause-direct : goal.returns-clause-direct
returns-clause-direct g c =
    rw c.dispatch_below-told.ensures.same at c.dispatch_at_once-again.ensures.direct

pub returns-clause-first : goal.returns-clause-first
returns-clause-first g c = refl

pub returns-clause-dispatcher : goal.returns-clause-dispatcher
returns-clause-dispatcher g c =
    c.dispatch_at_once-again.ensures.dispatcher ∙ c.dispatch_below-told.ensures.same
