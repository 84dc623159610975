-- States of pending children, as a walk goes on to another word.
use Rattle.std.proofs.Common.{rules, arith, ◌≡◌, ℕ, Option, None, List, [], ◌∷◌, ◌++◌, length, take, get_or, set, refl}
use Rattle.std.proofs.{Common.{sym, ◌∙◌, ap}, Math.Seq.{map-set_same, take-append_seam, take-length}}
use Rattle.std.proofs.{lemmas.List.map-append, lemmas.List.Elements.{All-from_recursion, recursion_from_All}}
use Rattle.std.specs.{Global.Box, List.AllByRecursion}
use Rattle.shop_model.specs.Shop.{Shop}
use Rattle.shop_tree.specs.{declared.held.Held.Held, inner.Held.{IsHeld, IsHeldAs, pending_in}, inner.Opens.ArePending}
use Rattle.shop_tree.specs.inner.StateWalkers.{AreHeld}
use Rattle.shop_nodes.specs.Halts.{open_child, word_at, IsPending}
use Rattle.shop_nodes.specs.declared.halts.{Open.Open, Pending.{Pending, TheVariants.{Child, Rest}}}
use Rattle.shop_bound.proofs.Lists.{all_map}
use Rattle.shop_tree.proofs.OpenLemmas.{IsUpTo, begins_alike, begins-child, deep, popped, rising-below}

module _ {S : Type 0} (is : List ℕ → S → Type 0) where
  -- Words that begin alike up to n: what begins with n entries at most is pending with the same states.
  module _ (v w : List ℕ) (n : ℕ) (alike : take n v ≡ take n w) where
    entry_held : (x : Pending) (state : Option (Box S)) → IsUpTo n x → IsHeldAs is w x state → IsHeldAs is v x state
    entry_held (Child job depth bound) state low h = grind (arith, begins_alike)
    entry_held (Rest depth count) state low h = h

    entries_held : (hs : List (Held S)) → AllByRecursion (IsUpTo n) (pending_in hs)
        → AllByRecursion (IsHeld is w) hs → AllByRecursion (IsHeld is v) hs
    entries_held [] low all = tt
    entries_held (h ∷ hs) low all = (entry_held h.pending h.state low.0 all.0, entries_held hs low.1 all.1)

    pub held_same : (hs : List (Held S)) → AllByRecursion (IsUpTo n) (pending_in hs) → AreHeld is w hs → AreHeld is v hs
    held_same hs low all = All-from_recursion (IsHeld is v) hs
        (entries_held hs low (recursion_from_All (IsHeld is w) hs all))

  -- below a child, once the walk goes on to it
  pub held_below : (shop : Shop) (best : ℕ) (word : List ℕ) (hs : List (Held S)) (o : Open)
      → ArePending shop best word (pending_in hs ++ open_child o ∷ []) → AreHeld is word hs
      → AreHeld is (word_at word o) hs
  held_below shop best word hs o on all =
      let own = (popped (pending_in hs) (open_child o) on).own
      in held_same (word_at word o) word o.depth (begins-child word o own.depth) hs
      (rising-below (pending_in hs) (open_child o) on.rising) all

  -- once it goes on with one job more
  pub held_on : (shop : Shop) (best : ℕ) (word : List ℕ) (j : ℕ) (hs : List (Held S))
      → ArePending shop best word (pending_in hs) → AreHeld is word hs → AreHeld is (word ++ j ∷ []) hs
  held_on shop best word j hs ordered all =
      held_same (word ++ j ∷ []) word (length word) (take-append_seam word (j ∷ []) ∙ sym (take-length word)) hs
      (all_map (IsPending shop best word) (IsUpTo (length word)) (deep shop best word) (pending_in hs) ordered.each)
      all

  -- an entry that lost its state
  entry_none : (word : List ℕ) (x : Pending) → IsHeldAs is word x None
  entry_none word (Child job depth bound) = tt
  entry_none word (Rest depth count) = refl

  pub held_stripped : (word : List ℕ) (hs : List (Held S)) (i : ℕ) (x : Pending) (state : Option (Box S))
      → state ≡ None → AreHeld is word hs → AreHeld is word (set hs i (record { pending = x; state = state }))
  held_stripped word hs i x state none all = search (rules, entry_none)

-- what is pending, without states, once there is one more
pub pending_pushed : {S : Type 0} (hs new : List (Held S)) (h : Held S) → new ≡ hs ++ h ∷ []
    → pending_in new ≡ pending_in hs ++ h.pending ∷ []
pending_pushed hs new h put = ap pending_in put ∙ map-append (λ x. x.pending) hs (h ∷ [])

-- what is pending, without states, once an entry lost its own
pub pending_stripped : {S : Type 0} (hs : List (Held S)) (i : ℕ) (d h : Held S) (state : Option (Box S))
    → h ≡ get_or hs i d → pending_in (set hs i (record { pending = h.pending; state = state })) ≡ pending_in hs
pending_stripped hs i d h state is = grind (arith, map-set_same)
