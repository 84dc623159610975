use Rattle.shop_states.proofs.KeptRoom.{room_of}
use Rattle.shop_tree.proofs.walk_states.WalkStates.strike.Goals as goal

pub invariant_of-self : goal.invariant_of-self
invariant_of-self g c =
    let old = c.args.self.now.rooms in let sole = c.requires.sole
    in record {
      rooms = record {
        current_is = room_of (c.strike.ensures sole.word (rw c.deref_mut.ensures.value sole.is) sole.sole);
        trial_is = old.trial_is;
        spare_are = old.spare_are;
      };
    }

pub returns-clause-state : goal.returns-clause-state
returns-clause-state g c = rw c.deref_mut.ensures.value at c.strike.ensures
