use Rattle.shop_tree.proofs.walk_states.WalkStates.try_child.Goals as goal

pub dispatch_in_copy-requires-clause-can : goal.dispatch_in_copy-requires-clause-can
dispatch_in_copy-requires-clause-can g c =
    let can = c.requires.can
    in record {
      word = can.word;
      is = rw c.deref.ensures (can.is.0, λ known. can.is.1);
      fits = can.fits;
      bound_is = can.bound_is;
    }

pub invariant_of-self : goal.invariant_of-self
invariant_of-self g c =
    let old = c.args.self.now.rooms
    in rw c.dispatch_in_copy.ensures.same (record {
      rooms = record {
        current_is = old.current_is;
        trial_is = c.dispatch_in_copy.ensures.room;
        spare_are = old.spare_are;
      };
    })

pub returns-clause-taken : goal.returns-clause-taken
returns-clause-taken g c = rw c.deref.ensures at c.dispatch_in_copy.ensures.dispatched
