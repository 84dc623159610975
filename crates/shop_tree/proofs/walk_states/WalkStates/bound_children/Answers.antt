use Rattle.std.proofs.Common.{◌≡◌, ℕ, List, All, IfSome, subst}
use Rattle.shop_bound.specs.Bound.{lb}
use Rattle.shop_states.specs.States.{Settles}
use Rattle.shop_tree.{specs.inner.WalkStates.Lists, proofs.SiblingLemmas.bounded_together}
use Rattle.shop_states.specs.inner.WordStates.{IsStateOf, KnowsChild}
use Rattle.shop_tree.proofs.walk_states.WalkStates.bound_children.Goals as goal

pub bound_children-requires-clause-can : goal.bound_children-requires-clause-can
bound_children-requires-clause-can g c =
    let at = c.requires.branching in let b = c.args.branching.now
    in record {
      word = b.word.now;
      is_word = rw c.deref.ensures at.state;
      limit = b.limit;
      others = b.closed;
      listed = at.listed;
      bound_is = at.bound;
    }

pub returns-clause-bounded : goal.returns-clause-bounded
returns-clause-bounded g c =
    let s = c.args.self.now in let b = c.args.branching.now in let shop = s.dispatcher.laid_out.asked
    in let is = IsStateOf g.L.StateLanes s.dispatcher.laid_out
    in let bounded = subst (λ now. IfSome c.bound_children.result (λ top. (w : List ℕ) (limit others : ℕ)
    → is w now → b.bound ≡ lb shop w → Lists s w limit b.candidates.now others
    → Settles shop w b.bound top b.candidates.now
    × All (λ c'. KnowsChild s.dispatcher.laid_out c.bound_children.new.self.ceilings w c'.job)
    b.candidates.now)) c.deref.ensures c.bound_children.ensures.bounded
    in bounded_together _ c.requires.branching c.bound_children.result bounded c.bound_children.ensures.same
