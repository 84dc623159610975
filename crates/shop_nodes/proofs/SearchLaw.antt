-- A walk loses no table: its best is at most the end of each table under its word, or one that ends no later lies under
-- a word left.
use Rattle.std.proofs.Common.{◌≡◌, ℕ, zero, suc, ◌≤◌, ◌⊎◌, inl, inr, Bool, true, false, List, [], ◌∷◌, refl, arith, leb}
use Rattle.std.{proofs.lemmas.Bool.{leb-true, leb-false}, specs.List.fold}
use Rattle.shop_model.specs.{Shop.{Shop, Starts, end_of}, Word.{IsWord, IsUnder}}
use Rattle.shop_bound.{specs.Bound.lb, proofs.BoundLaw.lb-le-end}
use Rattle.shop_nodes.specs.{Branching.branch, Walking.{Walk, walk_within, operations_left, taking, unless_cut}}
use Rattle.shop_nodes.proofs.{Members.{In, in_left, in_right}, BetterChildren.a_better_child, Counting.open_from}

-- a walk goes on from another: its best is no greater, and what was left is left
pub record GoesOn (s t : Walk) : Type 0 where
  pub best : t.best ≤ s.best
  pub left : (v : List ℕ) → In v s.left → In v t.left

goes_further : (s t u : Walk) → GoesOn s t → GoesOn t u → GoesOn s u
goes_further s t u a b = record {
  best = (let x = a.best in let y = b.best in omega arith);
  left = λ v h. b.left v (a.left v h);
}

pub fold_goes_on : (f : Walk → List ℕ → Walk) → ((s : Walk) (w : List ℕ) → GoesOn s (f s w))
    → (s : Walk) (ws : List (List ℕ)) → GoesOn s (fold f s ws)
fold_goes_on f h s [] = record { best = omega arith; left = λ v k. k }
fold_goes_on f h s (w ∷ ws) = goes_further s (f s w) (fold f (f s w) ws) (h s w) (fold_goes_on f h (f s w) ws)

taking_goes_on : (b : ℕ) (s : Walk) (w : List ℕ) (go : Walk → Walk) → ((t : Walk) → GoesOn t (go t))
    → GoesOn s (taking b s w go)
taking_goes_on zero s w go h = record { best = omega arith; left = λ v k. in_left v s.left (w ∷ []) k }
taking_goes_on (suc b) s w go h = (let r = h (record s { budget = b }) in record { best = r.best; left = r.left })

cut_goes_on : (test : Bool) (s : Walk) (go : Walk → Walk) → (test ≡ false → GoesOn s (go s))
    → GoesOn s (unless_cut test s go)
cut_goes_on true s go h = record { best = omega arith; left = λ v k. k }
cut_goes_on false s go h = h refl

pub walk_goes_on : (shop : Shop) (n : ℕ) (s : Walk) (w : List ℕ) → GoesOn s (walk_within shop n s w)
walk_goes_on shop zero s w = grind (arith, taking_goes_on, cut_goes_on, leb-false)
walk_goes_on shop (suc n) s w = taking_goes_on s.budget s w _ (λ t. cut_goes_on (leb t.best (lb shop w)) t _
    (λ e. fold_goes_on (walk_within shop n) (walk_goes_on shop n) t (branch shop w)))

-- the best is no later than a table's end, or a table that ends no later lies under a word left
unfoldable pub Reaches : Shop → Walk → Starts → Type 0
Reaches shop s starts = (s.best ≤ end_of shop starts) ⊎ ((v : List ℕ) × In v s.left × (better : Starts)
    × IsUnder shop v better × (end_of shop better ≤ end_of shop starts))

reaches_on : (shop : Shop) (s t : Walk) (starts : Starts) → GoesOn s t → Reaches shop s starts → Reaches shop t starts
unfolding Reaches
reaches_on shop s t starts g r = elim r [
  | inl a ↦ inl (let b = g.best in omega arith)
  | inr a ↦
      inr (a.0, g.left a.0 a.1, a.2, a.3, a.4)
]

pub reaches_later : (shop : Shop) (s : Walk) (better starts : Starts) → end_of shop better ≤ end_of shop starts
    → Reaches shop s better → Reaches shop s starts
unfolding Reaches
reaches_later shop s better starts le r = grind arith

taking_reaches : (shop : Shop) (b : ℕ) (s : Walk) (w : List ℕ) (go : Walk → Walk) (starts : Starts)
    → IsUnder shop w starts → ((t : Walk) → Reaches shop (go t) starts) → Reaches shop (taking b s w go) starts
unfolding Reaches
taking_reaches shop zero s w go starts u h = inr (w, in_right w s.left (w ∷ []) (inl refl), starts, u, omega arith)
taking_reaches shop (suc b) s w go starts u h = h (record s { budget = b })

cut_reaches : (shop : Shop) (w : List ℕ) (t : Walk) (go : Walk → Walk) (starts : Starts) → IsWord shop w
    → IsUnder shop w starts → (test : Bool) → test ≡ leb t.best (lb shop w) → Reaches shop (go t) starts
    → Reaches shop (unless_cut test t go) starts
unfolding Reaches
cut_reaches shop w t go starts word u true e h = grind (arith, leb-true, lb-le-end)
cut_reaches shop w t go starts word u false e h = h

-- for each member of the words that reaches, the fold reaches
pub fold_reaches : (shop : Shop) (f : Walk → List ℕ → Walk) (starts : Starts) (v : List ℕ)
    → ((s : Walk) (w : List ℕ) → GoesOn s (f s w)) → ((s : Walk) → Reaches shop (f s v) starts)
    → (s : Walk) (ws : List (List ℕ)) → In v ws → Reaches shop (fold f s ws) starts
fold_reaches shop f starts v g r s [] h = absurd h
fold_reaches shop f starts v g r s (w ∷ ws) h = elim h [
  | inl e ↦ grind (arith, reaches_on, fold_goes_on)
  | inr k ↦ fold_reaches shop f starts v g r (f s w) ws k
]

pub walk_reaches : (shop : Shop) (n : ℕ) (s : Walk) (w : List ℕ) (starts : Starts) → IsWord shop w
    → operations_left shop w
    ≡ n → IsUnder shop w starts → Reaches shop (walk_within shop n s w) starts
unfolding Reaches
walk_reaches shop zero s w starts word e u = grind (arith, taking_reaches, cut_reaches, lb-le-end)
walk_reaches shop (suc n) s w starts word e u =
    let c = a_better_child shop w starts word (open_from shop w n word e) u
    in taking_reaches shop s.budget s w _ starts u (λ t. cut_reaches shop w t _ starts word u (leb t.best (lb shop w))
    refl
    (reaches_later shop (fold (walk_within shop n) t (branch shop w)) c.better starts c.ends
    (fold_reaches shop (walk_within shop n) c.better c.child (walk_goes_on shop n)
    (λ s. walk_reaches shop n s c.child c.better c.is_word (let x = c.longer in omega arith) c.under) t (branch shop w)
    c.member)))
