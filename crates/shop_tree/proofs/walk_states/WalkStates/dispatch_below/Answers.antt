use Rattle.std.proofs.Common.{ap}
use Rattle.shop_tree.proofs.walk_states.WalkStates.dispatch_below.Goals as goal

pub dispatch_below-requires : goal.dispatch_below-requires
dispatch_below-requires g c =
    let can = c.requires.can
    in record {
      can = record {
        word = can.word;
        is = rw c.deref_mut.ensures.value can.is;
        fits = can.fits;
        bound_is = can.bound_is;
      };
    }

pub invariant_of-self : goal.invariant_of-self
invariant_of-self g c =
    let old = c.args.self.now.rooms
    in rw c.dispatch_below.ensures.same (record {
      rooms = record {
        current_is = c.dispatch_below.ensures.room;
        trial_is = old.trial_is;
        spare_are = old.spare_are;
      };
    })

pub returns-clause-laid_out : goal.returns-clause-laid_out
returns-clause-laid_out g c = ap (λ d. d.laid_out) c.dispatch_below.ensures.same

pub returns-clause-taken : goal.returns-clause-taken
returns-clause-taken g c = rw c.deref_mut.ensures.value at c.dispatch_below.ensures.dispatched
