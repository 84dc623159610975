-- Children that are settled without a trial, and the one on top of the stack, which is given the current state.
use Rattle.std.proofs.Common.{◌≡◌, ℕ, zero, suc, ◌-◌, ◌≤◌, ◌<◌, List, [], ◌∷◌, ◌++◌, length, map, get_or, set, take}
use Rattle.std.proofs.Common.{max, All, IfSome, None, Option, Some, inl, inr, sym, ◌∙◌, ap, subst, arith}
use Rattle.std.proofs.{Math.Seq.{map-set_same, take-length}, lemmas.List.Elements.{All-set, All-from_recursion}}
use Rattle.std.proofs.lemmas.List.{get_or-map, length-map, map-set, set-append_right}
use Rattle.shop_model.specs.Shop.{Shop}
use Rattle.shop_bound.specs.Bound.{lb}
use Rattle.shop_states.specs.States.{ListsBelow, Settles, ListsBelow.{none, listed, closed}}
use Rattle.shop_lanes.specs.declared.state_lanes.StateLanes.{Ghosts}
use Rattle.shop_states.specs.declared.states.Candidate.{Candidate}
use Rattle.shop_nodes.specs.Halts.{open_child, word_at}
use Rattle.shop_nodes.specs.declared.halts.{Open.Open, Pending.{Pending, TheVariants.{Child, Rest}}}
use Rattle.shop_tree.specs.{declared.walk_states.{WalkStates.WalkStates, Branching.Branching}, inner.Opens.AreChildren}
use Rattle.shop_tree.specs.{inner.Held.{IsHeldOf, IsKept, Kept, held, opens_in}, declared.held.Held.Held}
use Rattle.shop_tree.specs.inner.{WalkStates.{AreBounded, IsBranchingOf, IsStateIn, Lists}, Tried.HasGiven}
use Rattle.shop_tree.{specs.inner.Tried.HasPutChildren, proofs.{StripLemmas.{at_kid, many}, TrialLemmas.IsChildBelow}}
use Rattle.shop_states.specs.inner.WordStates.{KnowsChild}

-- the bound of a settled child
pub settled_bound : (shop : Shop) (word : List ℕ) (bound top : ℕ) (cs : List Candidate)
    → Settles shop word bound top cs → (k : ℕ) (d : Candidate) → k < length cs → (b : ℕ)
    → b ≡ max bound (get_or cs k d).own → top ≤ b → lb shop (word ++ (get_or cs k d).job ∷ []) ≡ b
settled_bound shop word bound top cs settles k d within b is low = grind arith

-- it is put without a state
pub settled_child : {S : Type 0} (is : List ℕ → S → Type 0) (shop : Shop) (word : List ℕ) (limit job b : ℕ)
    → lb shop (word ++ job ∷ []) ≡ b → b < limit → IsChildBelow is shop word limit job
    (record { «open» = record { depth = length word; job = job; bound = b }; state = None })
settled_child is shop word limit job b told low = grind arith

-- each listed candidate is what is said of it
pub own_each : {shop : Shop} {word : List ℕ} {limit : ℕ} {is : Candidate → Type 0} {js : List ℕ} {cs : List Candidate}
    {n : ℕ} → ListsBelow shop word limit is js cs n → (k : ℕ) (d : Candidate) → k < length cs → is (get_or cs k d)
own_each none k d within = absurd (omega arith)
own_each (listed j c same own rest) zero d within = own
own_each (listed j c same own rest) (suc k) d within = own_each rest k d (omega arith)
own_each (closed j high rest) k d within = own_each rest k d within

-- the open child of an entry
child_same : (o p : Open) → open_child o ≡ open_child p → o ≡ p
child_same o p e = ap (λ (x : Pending). elim x [
  | Child job depth bound ↦ record { depth = depth; job = job; bound = bound }
  | Rest depth count ↦ o
]) e

-- the child on top is given a state
pub put_given : {S : Type 0} (is : List ℕ → S → Type 0) (shop : Shop) (limit : ℕ) (word : List ℕ)
    (old mid new : List (Held S)) (n from : ℕ) → from ≡ length old → HasPutChildren is shop limit word old mid n
    → HasGiven is word from mid new → HasPutChildren is shop limit word old new n
put_given is shop limit word old mid new n from e put (inl same) = grind arith
put_given {S} is shop limit word old mid new n from e put (inr (child, (state, at))) =
    let i = length mid - 1 in let k = i - from
    in let bare : Kept S = record { «open» = child; state = None }
    in let given : Kept S = record { «open» = child; state = state } in let own = get_or put.kids k bare
    in let long = many old put.kids from e mid put.stack in let low = at.on_top.within
    in let within : k < length put.kids = omega arith
    in let there = at_kid old put.kids from e mid put.stack i (omega arith) (omega arith) (held bare) bare
    in let is_own : own.open ≡ child = child_same own.open child
    (sym (ap (λ (h : Held S). h.pending) there) ∙ at.on_top.is (held bare))
    in let opened : get_or (opens_in put.kids) k child ≡ own.open =
    get_or-map (λ (p : Kept S). p.open) put.kids k bare child within
    in let depth : child.depth ≡ length word =
    subst (λ (o : Open). o.depth ≡ length word) (opened ∙ is_own)
    (All-from_recursion (λ (o : Open). o.depth ≡ length word) (opens_in put.kids) put.children.depth k child
    (let a = length-map put.kids (λ (p : Kept S). p.open) in omega arith))
    in let word_is : word ++ child.job ∷ [] ≡ word_at word child =
    sym (ap (λ (m : ℕ). take m word ++ child.job ∷ []) depth
    ∙ ap (λ (w : List ℕ). w ++ child.job ∷ []) (take-length word))
    in let kids = set put.kids k given
    in let opens : opens_in kids ≡ opens_in put.kids =
    map-set_same (λ (p : Kept S). p.open) put.kids k given bare (sym is_own)
    in record {
      kids = kids;
      stack = at.given ∙ (ap (λ (xs : List (Held S)). set xs i (held given)) put.stack
          ∙ (set-append_right old (map held put.kids) from i (held given) (sym e) (omega arith)
          ∙ ap (λ (xs : List (Held S)). old ++ xs) (sym (map-set (held {S = S}) put.kids k given))));
      children = subst (λ (os : List Open). AreChildren shop limit word os n) (sym opens) put.children;
      states = All-set (IsKept is word) put.kids k given
          (subst (λ (w : List ℕ). IsHeldOf is w state) word_is at.own) put.states;
    }

-- what is known of the current word, once a trial left its state
module _ {L N : Type 0} {g : Ghosts L N} {s t : WalkStates L N g} {b : Branching}
    (same : t.dispatcher.laid_out ≡ s.dispatcher.laid_out) where
  pub branching_stays : t.current.value ≡ s.current.value → IsBranchingOf s b → IsBranchingOf t b
  branching_stays current at = record {
    state = rw (same, current) at.state;
    bound = rw same at.bound;
    listed = rw same at.listed;
  }

  pub bounded_stays : {top : ℕ} → t.dispatcher.ceilings ≡ s.dispatcher.ceilings → AreBounded s b top
      → AreBounded t b top
  bounded_stays {top} kept at = record {
    settled = rw same at.settled;
    known = λ k c within. rw (same, kept) (at.known k c within);
  }

-- children that were bounded together
pub bounded_together : {L N : Type 0} {g : Ghosts L N} {s : WalkStates L N g} {b : Branching}
    (t : WalkStates L N g) → IsBranchingOf s b → (answer : Option ℕ)
    → IfSome answer (λ top. (w : List ℕ) (limit others : ℕ) → IsStateIn s w
    → b.bound ≡ lb s.dispatcher.laid_out.asked w → Lists s w limit b.candidates.now others
    → Settles s.dispatcher.laid_out.asked w b.bound top b.candidates.now
    × All (λ c. KnowsChild s.dispatcher.laid_out t.dispatcher.ceilings w c.job) b.candidates.now)
    → t.dispatcher.laid_out ≡ s.dispatcher.laid_out → IfSome answer (AreBounded t b)
bounded_together t at None bounded same = tt
bounded_together {b = b} t at (Some top) bounded same =
    let of = bounded b.word.now b.limit b.closed at.state at.bound at.listed
    in record { settled = rw same of.0; known = rw same of.1 }
