use Rattle.std.proofs.{Common.{ap, rules, sym}, lemmas.Bool.true≢false}
use Rattle.shop_tree.proofs.walk_states.WalkStates.try_candidate.Goals as goal

pub dispatch_in_copy-requires-clause-can : goal.dispatch_in_copy-requires-clause-can
dispatch_in_copy-requires-clause-can g c =
    let can = c.requires.can
    in record {
      word = can.word;
      is = rw c.deref.ensures (can.is, λ known. absurd (true≢false (sym known)));
      fits = can.fits;
      bound_is = can.bound_is;
    }

pub invariant_of-self : goal.invariant_of-self
invariant_of-self g c =
    let kept = c.dispatch_below-child.new.self.rooms
    in record {
      rooms = record {
        current_is = rw c.swap.ensures.x_after kept.trial_is;
        trial_is = rw c.swap.ensures.y_after kept.current_is;
        spare_are = kept.spare_are;
      };
    }

pub invariant_of-self-2 : goal.invariant_of-self-2
invariant_of-self-2 g c =
    let old = c.args.self.now.rooms
    in rw c.dispatch_in_copy.ensures.same (record {
      rooms = record {
        current_is = old.current_is;
        trial_is = c.dispatch_in_copy.ensures.room;
        spare_are = old.spare_are;
      };
    })

pub returns-clause-laid_out : goal.returns-clause-laid_out
returns-clause-laid_out g c = ap (λ d. d.laid_out) c.dispatch_in_copy.ensures.same

pub returns-clause-taken : goal.returns-clause-taken
returns-clause-taken g c = rw c.deref.ensures at c.dispatch_in_copy.ensures.dispatched

pub returns-then-is_last-clause-current : goal.returns-then-is_last-clause-current
returns-then-is_last-clause-current g c = search rules
