-- One turn of the walk of a stack: where the walk goes.
use Rattle.std.{proofs.Common.{arith, ◌≡◌, ℕ, ◌<◌, List, [], ◌∷◌, ◌++◌, length, sym, ◌∙◌, ap}, specs.List.fold}
use Rattle.shop_model.specs.Shop.{Shop, operation_count}
use Rattle.shop_nodes.specs.{Halts.{open_child, word_at}, Walking.{Walk, walk}, declared.halts.Open.Open}
use Rattle.shop_nodes.specs.declared.halts.Pending.{Pending}
use Rattle.shop_tree.specs.{inner.Opens.ArePending, inner.Searching.{walk_stack, Adds, entered}}
use Rattle.shop_tree.proofs.OpenLemmas.{popped, stack-append, walk-top, words-below, pending-below, begins-child}
use Rattle.shop_tree.proofs.{OpenLemmas.long-child, Entering.entered-children}

module _ (shop : Shop) (best : ℕ) (word : List ℕ) (rest : List Pending) (o : Open)
    (all : ArePending shop best word (rest ++ open_child o ∷ [])) where
  abbrev next : List ℕ
  next = word_at word o

  -- what lies below a child is pending as before where the walk goes on to it
  pub below_pending : ArePending shop best next rest
  below_pending =
      let depth = (popped rest (open_child o) all).own.depth
      in pending-below shop best word next rest o all (begins-child word o depth) (long-child word o depth)

  -- and the walk goes on from the child
  pub child_walks : (s t : Walk) → walk shop s next ≡ entered shop t next
      → walk_stack shop next (entered shop t next) rest ≡ walk_stack shop word s (rest ++ open_child o ∷ [])
  child_walks s t h =
      let depth = (popped rest (open_child o) all).own.depth
      in ap (fold (walk shop) (entered shop t next))
      (words-below shop best word next rest o all (begins-child word o depth) (long-child word o depth))
      ∙ (ap (λ u. walk_stack shop word u rest) (sym h) ∙ sym (walk-top shop s word rest (open_child o)))

-- the children of the word, on the stack
pub children_walk : (shop : Shop) (w : List ℕ) (old new : List Pending) (t : Walk) (best : ℕ)
    → length w < operation_count shop → Adds shop best w old new
    → walk_stack shop w t new ≡ walk_stack shop w (entered shop t w) old
children_walk shop w old new t best short more = grind (arith, stack-append, entered-children)
