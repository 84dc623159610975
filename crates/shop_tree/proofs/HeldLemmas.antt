-- Children that lie on the stack with their states, and closed ones below them.
use Rattle.std.proofs.Common.{◌≡◌, ℕ, zero, suc, ◌+◌, ◌≤◌, ◌<◌, List, [], ◌∷◌, ◌++◌, length, map, min, get_or, set}
use Rattle.std.proofs.Common.{None, All, refl, sym, ◌∙◌, ap, subst, append_assoc, arith}
use Rattle.std.proofs.{Math.Seq.{get_or-append_seam, set-append_seam}, lemmas.List.{length_push, map-append}}
use Rattle.std.proofs.lemmas.List.Elements.{All-append, All-map, All-from_recursion}
use Rattle.shop_nodes.specs.{Halts.open_child, declared.halts.Pending.{Pending, TheVariants.Rest}}
use Rattle.shop_tree.specs.{declared.held.Held.Held, inner.Held.{HasSetRestBelow, IsHeld, IsKept, Kept, held, opens_in}}
use Rattle.shop_tree.{specs.inner.Held.{pending_in, with_held_rest}, proofs.Pushing.{with_opens, with_rest}}

children_moved : {S : Type 0} (ks : List (Kept S)) → pending_in (map held ks) ≡ map (λ o. open_child o) (opens_in ks)
children_moved [] = refl
children_moved (k ∷ ks) = ap (λ ws. open_child k.open ∷ ws) (children_moved ks)

module _ {S : Type 0} (old : List (Held S)) (kids : List (Kept S)) where
  -- what is pending then, and the states
  pub pending_moved : (new : List (Held S)) → new ≡ old ++ map held kids
      → pending_in new ≡ with_opens (pending_in old) (opens_in kids)
  pending_moved new is = grind (arith, map-append, children_moved)

  pub states_moved : (is : List ℕ → S → Type 0) (word : List ℕ) (new : List (Held S)) → new ≡ old ++ map held kids
      → All (IsHeld is word) old → All (IsKept is word) kids → All (IsHeld is word) new
  states_moved is word new e below above = subst (All (IsHeld is word)) (sym e)
      (All-append (IsHeld is word) old (map held kids) below (All-map (IsHeld is word) held kids above))

pub some_raised : {S : Type 0} (index depth known count : ℕ) (stack : List (Held S)) (d h : Held S) → 0 < known
    → known ≤ count → h ≡ get_or stack index d
    → HasSetRestBelow index depth known count stack
    (set stack index (record { pending = Rest depth count; state = h.state }))
some_raised {S} index depth zero count stack d h some more read below kids at is = absurd (omega arith)
some_raised {S} index depth (suc known) zero stack d h some more read below kids at is = absurd (omega arith)
some_raised {S} index depth (suc known) (suc count) stack d h some more read below kids at is =
    grind (arith, append_assoc, get_or-append_seam, set-append_seam)

pub pending_rest : {S : Type 0} (old : List (Held S)) (depth n : ℕ)
    → pending_in (with_held_rest old depth n) ≡ with_rest (pending_in old) depth n
pending_rest old depth zero = refl
pending_rest {S} old depth (suc n) = grind (arith, map-append)

pub rest_long : {S : Type 0} (old : List (Held S)) (depth n : ℕ)
    → length old + min n 1 ≤ length (with_held_rest old depth n)
rest_long old depth zero = omega arith
rest_long {S} old depth (suc n) = grind (arith, length_push)

-- what is pending once closed ones are put on top
pub rest_on_top : {S : Type 0} (old : List (Held S)) {new : List (Held S)} (word : List ℕ) {depth : ℕ} (n : ℕ)
    → depth ≡ length word → new ≡ with_held_rest old depth n → pending_in new ≡ with_rest (pending_in old) (length word)
    n
rest_on_top old word {depth} n deep put = grind (arith, pending_rest)

-- so for closed ones
module _ {S : Type 0} (old : List (Held S)) where
  pub states_rest : (is : List ℕ → S → Type 0) (word : List ℕ) (depth n : ℕ) → All (IsHeld is word) old
      → All (IsHeld is word) (with_held_rest old depth n)
  states_rest is word depth zero below = below
  states_rest is word depth (suc n) below = All-append (IsHeld is word) old
      (record { pending = Rest depth (suc n); state = None } ∷ []) below
      (All-from_recursion (IsHeld is word) (record { pending = Rest depth (suc n); state = None } ∷ []) (refl, tt))

  -- what is pending then
  pub pending_put : (kids : List (Kept S)) (new : List (Held S)) (depth n : ℕ)
      → new ≡ with_held_rest old depth n ++ map held kids
      → pending_in new ≡ with_opens (with_rest (pending_in old) depth n) (opens_in kids)
  pending_put kids new depth n is = pending_moved (with_held_rest old depth n) kids new is
      ∙ ap (λ (ws : List Pending). with_opens ws (opens_in kids)) (pending_rest old depth n)
