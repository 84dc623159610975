use Rattle.std.proofs.Common.{subst, sym}
use Rattle.shop_states.specs.inner.WordStates.{IsRoom}
use Rattle.shop_states.proofs.KeptRoom.{room_of}
use Rattle.shop_tree.proofs.ListLemmas.{all_pushed}
use Rattle.shop_tree.proofs.walk_states.WalkStates.go_on_in.Goals as goal

pub invariant_of-self : goal.invariant_of-self
invariant_of-self g c =
    let s = c.args.self.now in let old = s.rooms in let room = IsRoom g.L.StateLanes s.dispatcher.laid_out
    in let own = rw c.in-Some.is at c.requires.state
    in let kept = subst (λ b. room b.value) (sym c.replace-before.ensures.value) old.current_is
    in record {
      rooms = record {
        current_is = subst (λ b. room b.value) (sym c.replace-before.ensures.after) (room_of own);
        trial_is = old.trial_is;
        spare_are = rw c.push.ensures.items (all_pushed (λ b. room b.value) _ _ _ old.spare_are kept);
      };
    }
