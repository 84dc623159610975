-- Steps of a walk over states: where it stands before and after, and what is pending.
use Rattle.std.proofs.Common.{◌≡◌, ℕ, ◌<◌, List, ◌++◌, All, length, map, ◌∙◌, sym, ap, subst, arith, Option, Some}
use Rattle.std.proofs.Common.{None}
use Rattle.shop_model.specs.Shop.{operation_count}
use Rattle.shop_bound.specs.Bound.{lb}
use Rattle.shop_tree.specs.{declared.held.Held.Held, inner.Held.{IsKept, Kept, held, with_held_rest}}
use Rattle.shop_tree.specs.{declared.walkers.Walker.Walker, inner.WalkStates.{IsStateIn, Lists}}
use Rattle.shop_tree.specs.inner.StateWalkers.{stage_of, AreHeld, HasGoneOn, HasReached, HasStates, IsListedAt}
use Rattle.shop_tree.specs.{inner.StateWalkers.{StandsAs, StandsAt}, inner.Walkers.{Stage, HasExpanded, IsInOrder}}
use Rattle.shop_lanes.specs.declared.state_lanes.StateLanes.{Ghosts}
use Rattle.shop_tree.proofs.{ExpandLemmas.HasGone, HeldLemmas.{states_moved, states_rest}}

-- with their states
pub held_branched : {S : Type 0} (is : List ℕ → S → Type 0) (word : List ℕ) (old new : List (Held S))
    (kids : List (Kept S)) (depth n : ℕ) → AreHeld is word old → All (IsKept is word) kids
    → new ≡ with_held_rest old depth n ++ map held kids → AreHeld is word new
held_branched is word old new kids depth n below above put = grind (arith, states_moved, states_rest)

pub stands_then : {L N : Type 0} {g : Ghosts L N} {u v w : Walker L N g} → StandsAs u v → StandsAs v w
    → StandsAs u w
stands_then a b = grind arith

-- so with what is at hand there
module _ {L N : Type 0} {g : Ghosts L N} {v w : Walker L N g} (s : StandsAs v w) where
  path_same : w.path.items ≡ v.path.items
  path_same = ap (λ (t : Stage). t.word) s.stage

  incumbent_same : w.incumbent ≡ v.incumbent
  incumbent_same = ap (λ (t : Stage). t.walk.best) s.stage

  candidates_stand : {n : ℕ} → Lists v.states v.path.items v.incumbent v.candidates.items n
      → Lists w.states w.path.items w.incumbent w.candidates.items n
  candidates_stand h = rw (s.laid_out, s.candidates, path_same, incumbent_same) h

  state_stands : IsStateIn v.states v.path.items → IsStateIn w.states w.path.items
  state_stands h = grind (arith, path_same)

-- and where its candidates were gathered
pub still_at : {L N : Type 0} {g : Ghosts L N} {v : Walker L N g} (w : Walker L N g) {b : ℕ} → StandsAt v b
    → stage_of w ≡ stage_of v → HasStates w → IsStateIn w.states w.path.items → StandsAt w b
still_at {v} w at same states state = record {
  bound = at.bound ∙ sym (ap (λ (t : Stage). lb t.shop t.word) same);
  below = (let a = at.below in let e : w.incumbent ≡ v.incumbent = ap (λ (t : Stage). t.walk.best) same
      in omega arith);
  in_order = subst IsInOrder (sym same) at.in_order;
  states = states;
  state = state;
}

-- a walk that went on stands at the word that it took
pub reached : {L N : Type 0} {g : Ghosts L N} (v w : Walker L N g) (b : ℕ) → HasGone (stage_of v) (stage_of w) b
    → HasStates w → IsStateIn w.states w.path.items → HasReached v w b
reached v w b gone states state = grind (arith, gone)

-- what is told of a walk that went on, and of one that didn't
pub gone : {L N : Type 0} {g : Ghosts L N} (v w : Walker L N g) {told : Option ℕ} {b : ℕ} → told ≡ Some b
    → HasGoneOn v w told → HasReached v w b
gone v w is h = subst (λ (t : Option ℕ). HasGoneOn v w t) is h

pub ended : {L N : Type 0} {g : Ghosts L N} (v w : Walker L N g) {told : Option ℕ} → told ≡ None
    → HasGoneOn v w told → HasExpanded (stage_of v) (stage_of w) × HasStates w
ended v w is h = subst (λ (t : Option ℕ). HasGoneOn v w t) is h

-- and where they are listed
pub listed_stand : {L N : Type 0} {g : Ghosts L N} {v w : Walker L N g} {b n : ℕ} → StandsAs v w
    → IsListedAt v b n → IsListedAt w b n
listed_stand {v} {w} s at = record {
  at = still_at w at.at s.stage s.states (state_stands s at.at.state);
  short = (let a = at.short in let e = v.counted in let f = w.counted
      in let h : operation_count w.instance.now ≡ operation_count v.instance.now =
      ap (λ (t : Stage). operation_count t.shop) s.stage
      in let k : length w.path.items ≡ length v.path.items = ap (λ (t : Stage). length t.word) s.stage in omega arith);
  candidates = candidates_stand s at.candidates;
}

-- so they are, once they were listed
pub listed_at : {L N : Type 0} {g : Ghosts L N} {v w : Walker L N g} {b n : ℕ} → StandsAt v b
    → stage_of w ≡ stage_of v → w.stack.items ≡ v.stack.items
    → w.states.dispatcher.laid_out ≡ v.states.dispatcher.laid_out
    → w.states.current.value ≡ v.states.current.value → length w.path.items < w.operations
    → Lists v.states w.path.items w.incumbent w.candidates.items n → IsListedAt w b n
listed_at {g = g} {v} {w} {n = n} at stage stack same current short lists =
    let word : w.path.items ≡ v.path.items = ap (λ (t : Stage). t.word) stage
    in record {
      at = still_at w at stage (rw (same, word, stack) at.states)
          (rw (same, word, current) at.state);
      short = short;
      candidates = rw same lists;
    }
