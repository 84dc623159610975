use Rattle.std.proofs.lemmas.List.Elements.{All-take}
use Rattle.shop_states.specs.inner.WordStates.{IsRoom}
use Rattle.shop_tree.proofs.walk_states.WalkStates.spare_state.Goals as goal

pub invariant_of-self : goal.invariant_of-self
invariant_of-self g c =
    let s = c.args.self.now in let old = s.rooms in let room = IsRoom g.L.StateLanes s.dispatcher.laid_out
    in record {
      rooms = record {
        current_is = old.current_is;
        trial_is = old.trial_is;
        spare_are = rw c.pop.ensures.rest (All-take (λ b. room b.value) _ s.spare.items old.spare_are);
      };
    }
