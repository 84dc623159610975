-- An entry that is taken off the stack: the states below it, and a turn with it.
use Rattle.std.proofs.Common.{◌≡◌, ◌≤◌, ◌<◌, ◌∙◌, List, [], ◌∷◌, ◌++◌, ap, arith, subst, sym}
use Rattle.std.proofs.lemmas.List.Elements.{All-from_recursion, recursion_from_All}
use Rattle.shop_lanes.specs.declared.state_lanes.StateLanes.{Ghosts}
use Rattle.shop_nodes.specs.declared.halts.Pending.{Pending}
use Rattle.shop_tree.specs.{declared.{held.Held.Held, walkers.Walker.Walker}, inner.Held.{IsHeld, pending_in}}
use Rattle.shop_tree.specs.inner.StateWalkers.{stage_of, AreHeld, HasStates}
use Rattle.shop_tree.specs.inner.Walkers.{on_top, stack_walk, turns_left, IsInOrder, IsTurn, Stage}
use Rattle.shop_tree.proofs.{ListLemmas.all_front, StateLemmas.pending_pushed}
use Rattle.shop_states.specs.inner.WordStates.{IsStateOf}
use Rattle.shop_states.specs.declared.states.State.{State}

-- the walk of a stack has come this far
pub record HasCome {L N : Type 0} {g : Ghosts L N} (first now : Walker L N g) : Type 0 where
  pub walk : stack_walk (stage_of now) ≡ stack_walk (stage_of first)
  pub in_order : IsInOrder (stage_of now)
  pub fewer : turns_left (stage_of now) ≤ turns_left (stage_of first)
  pub spent : now.budget ≤ first.budget
  pub shop : now.instance.now ≡ first.instance.now
  pub states : HasStates now

module _ {L N : Type 0} {g : Ghosts L N} (w : Walker L N g) (rest : List (Held (State L N)))
    (h : Held (State L N))
    (is : w.stack.items ≡ rest ++ h ∷ []) where
  pub states_below : HasStates w → AreHeld (IsStateOf g w.states.dispatcher.laid_out) w.path.items rest
  states_below old = let own = IsHeld (IsStateOf g w.states.dispatcher.laid_out) w.path.items
      in let all = recursion_from_All own (rest ++ h ∷ []) (rw is at old)
      in All-from_recursion own rest (all_front own rest (h ∷ []) all)

  module _ {x : Pending} (top : h.pending ≡ x) where
    abbrev below : Stage
    below = record (stage_of w) { stack = pending_in rest }

    pub as_before : stage_of w ≡ on_top below x
    as_before = ap (λ ws. record (stage_of w) { stack = ws })
        (pending_pushed rest w.stack.items h is ∙ ap (λ y. pending_in rest ++ y ∷ []) top)

    pub fewer_turns : {t : Stage} → IsTurn below x t → turns_left t < turns_left (stage_of w)
    fewer_turns {t} turn = subst (λ s. turns_left t < turns_left s) (sym as_before) turn.fewer

    pub comes_on : {first : Walker L N g} (now : Walker L N g) → HasCome first w → IsTurn below x (stage_of now)
        → HasStates now → HasCome first now
    comes_on now old turn states = record {
      walk = turn.walk ∙ (ap stack_walk (sym as_before) ∙ old.walk);
      in_order = turn.in_order;
      fewer = (let a = fewer_turns turn in let b = old.fewer in omega arith);
      spent = (let a = turn.spent in let b = old.spent in omega arith);
      shop = turn.shop ∙ old.shop;
      states = states;
    }
