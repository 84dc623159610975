use Rattle.std.proofs.Common.{◌∙◌, ap, inl, refl, rules}
use Rattle.shop_tree.proofs.SiblingLemmas.{own_each}
use Rattle.shop_tree.proofs.walk_states.WalkStates.give_current.Goals as goal

pub dispatch_settled-requires : goal.dispatch_settled-requires
dispatch_settled-requires g c =
    let at = c.requires.branching
    in record {
      can = λ k e within.
          record { word = c.args.branching.now.word.now; is = (at.state, own_each at.listed k e within) };
    }

pub returns-clause-given : goal.returns-clause-given
returns-clause-given g c =
    let at = c.requires.branching in let is = at.state in let own = own_each at.listed
    in let state = c.dispatch_settled.ensures.state
    in search rules

pub returns-in_err-spare-clause-laid_out : goal.returns-in_err-spare-clause-laid_out
returns-in_err-spare-clause-laid_out g c =
    ap (λ d. d.laid_out) c.spare_state.ensures.stayed.dispatcher ∙ c.dispatch_settled.ensures.laid_out

pub returns-in_default-2-clause-laid_out : goal.returns-in_default-2-clause-laid_out
returns-in_default-2-clause-laid_out g c =
    ap (λ d. d.laid_out) c.spare_state.ensures.stayed.dispatcher ∙ c.dispatch_settled.ensures.laid_out

pub returns-in_default-2-clause-given : goal.returns-in_default-2-clause-given
returns-in_default-2-clause-given g c = inl refl
