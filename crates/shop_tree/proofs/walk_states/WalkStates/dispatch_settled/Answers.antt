use Rattle.std.proofs.Common.{ap}
use Rattle.shop_states.specs.declared.states.Candidate.{Candidate}
use Rattle.shop_tree.proofs.walk_states.WalkStates.dispatch_settled.Goals as goal

pub invariant_of-self : goal.invariant_of-self
invariant_of-self g c =
    let old = c.loop-index.self.rooms
    in record {
      rooms = record {
        current_is = c.dispatch_settled.ensures.room;
        trial_is = old.trial_is;
        spare_are = old.spare_are;
      };
    }

pub returns-then-candidate-job-clause-laid_out : goal.returns-then-candidate-job-clause-laid_out
returns-then-candidate-job-clause-laid_out g c = ap (λ s. s.dispatcher.laid_out) c.loop-index.invariant

pub dispatch_settled-requires : goal.dispatch_settled-requires
dispatch_settled-requires g c =
    let at = c.requires.can c.loop-index.index (record { job = 0; own = 0 }) c.loop-index-test.true
    in record { word = at.word; is = rw (c.deref_mut.ensures.value, c.loop-index.invariant) at.is }

pub returns-then-candidate-job-clause-state : goal.returns-then-candidate-job-clause-state
returns-then-candidate-job-clause-state g c = λ is w state all.
    let none : Candidate = record { job = 0; own = 0 }
    in let own = all c.loop-index.index none c.loop-index-test.true
    in rw c.if-candidate-job.true at (c.dispatch_settled.ensures.state w
    (rw (c.deref_mut.ensures.value, c.loop-index.invariant) (state, own)))
