use Rattle.std.{proofs.Common.{◌≡◌, inl, [], Option, None, refl, subst}, specs.Global.Box}
use Rattle.shop_tree.{specs.inner.{Held.IsHeldOf, Tried.{HasPutTried, HasStripped}}, proofs.ListLemmas.on_ok}
use Rattle.shop_states.specs.declared.states.State.{State}
use Rattle.shop_tree.proofs.walk_states.WalkStates.put_tried.Goals.{then-free-eq0+in_ok-give_back, else-free-eq0}
use Rattle.shop_tree.proofs.walk_states.WalkStates.put_tried.Goals as goal

pub returns-clause-put : goal.returns-clause-put
returns-clause-put g c =
    let now = c.if-free-eq0.self.trial.value in let trial = c.args.self.now.trial.value
    in let old = c.args.stack.now.items in let mid = c.if-free-eq0.stack.items
    in let same : now ≡ trial = elim c.if-free-eq0.branch [
      | then-free-eq0+in_ok-give_back w ↦ rw w.self-is w.in_ok-give_back.ensures.stayed.trial
      | else-free-eq0 w ↦ rw w.self-is refl
    ]
    in let room : (stripped : Option (Box (State g.row.L.Denot g.row.L-Number.Denot)))
    × HasStripped c.args.from old mid stripped =
    elim c.if-free-eq0.branch [
      | then-free-eq0+in_ok-give_back w ↦ rw w.stack-is (w.strip_top-state.result, w.strip_top-state.ensures)
      | else-free-eq0 w ↦ rw w.stack-is (None, inl (refl, refl))
    ]
    in on_ok _ (HasPutTried c.args.from c.args.child trial old c.put.new.stack.items) (λ put. record {
      mid = mid;
      state = c.in_ok-state.state;
      room = room;
      put = put;
      taken = subst (λ t. IsHeldOf (λ w s. s ≡ t) [] c.in_ok-state.state) same c.in_ok-state.ensures.taken;
    }) c.put.result c.put.ensures
