-- The tree below a word is finite, and each node that a walk takes makes what it leaves smaller.
use Rattle.std.proofs.Common.{◌≡◌, ℕ, zero, suc, ◌+◌, ◌≤◌, ◌<◌, Bool, List, [], ◌∷◌, ◌++◌, length, map, refl, sym, ◌∙◌}
use Rattle.std.proofs.{Common.{ap, arith, leb}, lemmas.List.{length-append, Sums.{sum_by-append, sum_by-cons}}}
use Rattle.std.specs.List.{AllByRecursion, fold, sum_by}
use Rattle.shop_model.specs.Shop.{Shop}
use Rattle.shop_bound.specs.Bound.{lb}
use Rattle.shop_nodes.specs.{Branching.branch, Walking.{Walk, walk, walk_within, operations_left, taking, unless_cut}}
use Rattle.shop_nodes.{specs.Walking.sheet, proofs.Members.all_sort}

-- how many words stand below a word that lacks this many operations, with the word itself
abbrev size_within : Shop → ℕ → List ℕ → ℕ
size_within shop zero w = 1
size_within shop (suc n) w = 1 + sum_by (size_within shop n) (branch shop w)

unfoldable pub size_of : Shop → List ℕ → ℕ
size_of shop w = size_within shop (operations_left shop w) w

-- how many words stand below all of these, with them
unfoldable pub size_all : Shop → List (List ℕ) → ℕ
size_all shop ws = sum_by (size_of shop) ws

module _ (shop : Shop) where
  pub size_none : size_all shop [] ≡ 0
  unfolding size_all
  size_none = refl

  pub size_cons : (w : List ℕ) (ws : List (List ℕ)) → size_all shop (w ∷ ws) ≡ size_of shop w + size_all shop ws
  unfolding size_all
  size_cons w ws = sum_by-cons (size_of shop) w ws

  pub size_append : (vs ws : List (List ℕ)) → size_all shop (vs ++ ws) ≡ size_all shop vs + size_all shop ws
  unfolding size_all
  size_append vs ws = sum_by-append (size_of shop) vs ws

  some_within : (n : ℕ) (w : List ℕ) → 1 ≤ size_within shop n w
  some_within x w = grind arith

  pub size_some : (w : List ℕ) → 1 ≤ size_of shop w
  unfolding size_of
  size_some w = some_within (operations_left shop w) w

  first_same : (n : ℕ) (v : List ℕ) → operations_left shop v ≡ n → size_within shop n v ≡ size_of shop v
  unfolding size_of
  first_same n v e = ap (λ k. size_within shop k v) (sym e)

  same_sizes : (n : ℕ) (ws : List (List ℕ)) → AllByRecursion (λ v. operations_left shop v ≡ n) ws
      → sum_by (size_within shop n) ws ≡ size_all shop ws
  same_sizes n [] a = sym size_none
  same_sizes n (w ∷ ws) a =
      let first = first_same n w a.0
      in let b = sum_by-cons (size_within shop n) w ws
      in let d = size_cons w ws
      in let e = same_sizes n ws a.1
      in omega arith

  -- the children of a word lack one operation less
  longer : (w : List ℕ) (js : List ℕ) → AllByRecursion (λ v. length v ≡ length w + 1) (map (λ j. w ++ j ∷ []) js)
  longer w [] = tt
  longer w (j ∷ js) = (length-append w (j ∷ []), longer w js)

  lack_less : (n : ℕ) (w : List ℕ) → operations_left shop w ≡ suc n → (ws : List (List ℕ))
      → AllByRecursion (λ v. length v ≡ length w + 1) ws → AllByRecursion (λ v. operations_left shop v ≡ n) ws
  lack_less n w e [] a = tt
  lack_less n w e (v ∷ ws) a = ((let b = a.0 in omega arith), lack_less n w e ws a.1)

  pub children_lack_less : (n : ℕ) (w : List ℕ) → operations_left shop w ≡ suc n
      → AllByRecursion (λ v. operations_left shop v ≡ n) (branch shop w)
  children_lack_less n w e = grind (arith, lack_less, all_sort, longer)

  size_open : (n : ℕ) (w : List ℕ) → operations_left shop w ≡ suc n → size_of shop w ≡ 1 + size_all shop (branch shop w)
  unfolding size_of
  size_open n w e =
      ap (λ k. size_within shop k w) e
      ∙ ap (λ k. 1 + k) (same_sizes n (branch shop w) (children_lack_less n w e))

  -- a walk goes from s to t, over words of this size: what is left is smaller by what was spent
  pub record Uses (s t : Walk) (size : ℕ) : Type 0 where
    pub less : t.budget ≤ s.budget
    pub sizes : size_all shop t.left + s.budget ≤ size_all shop s.left + size + t.budget

  -- of one word at least one node is taken
  pub record Takes (s t : Walk) (w : List ℕ) : Type 0 where
    pub uses : Uses s t (size_of shop w)
    pub spends : 1 ≤ s.budget → t.budget < s.budget

  -- the same, once the word itself is taken
  record GoesOn (s t : Walk) (size : ℕ) : Type 0 where
    pub less : t.budget < s.budget
    pub sizes : size_all shop t.left + s.budget ≤ size_all shop s.left + size + t.budget

  taking_takes : (b : ℕ) (s : Walk) (w : List ℕ) (go : Walk → Walk) → s.budget ≡ b
      → ((t : Walk) → t.left ≡ s.left → t.budget + 1 ≡ s.budget → GoesOn s (go t) (size_of shop w))
      → Takes s (taking b s w go) w
  taking_takes x s w go e h = grind (arith, size_append, size_cons, size_none)

  cut_goes_on : (test : Bool) (s t : Walk) (go : Walk → Walk) (size : ℕ) → t.left ≡ s.left → t.budget + 1 ≡ s.budget
      → 1 ≤ size → GoesOn s (go t) size → GoesOn s (unless_cut test t go) size
  cut_goes_on x s t go size same e some g = grind arith

  pub fold_uses : (f : Walk → List ℕ → Walk) (P : List ℕ → Type 0)
      → ((s : Walk) (w : List ℕ) → P w → Uses s (f s w) (size_of shop w))
      → (s : Walk) (ws : List (List ℕ)) → AllByRecursion P ws → Uses s (fold f s ws) (size_all shop ws)
  fold_uses f P h s [] a = let z = size_none in record { less = omega arith; sizes = omega arith }
  fold_uses f P h s (w ∷ ws) a = grind (arith, size_cons, fold_uses f P h (f s w) ws a.1)

  pub walk_takes : (n : ℕ) (s : Walk) (w : List ℕ) → operations_left shop w ≡ n → Takes s (walk_within shop n s w) w
  walk_takes zero s w e = grind (arith, taking_takes, cut_goes_on, size_some)
  walk_takes (suc n) s w e =
      taking_takes s.budget s w _ refl
      (λ t same less. cut_goes_on (leb t.best (lb shop w)) s t _ (size_of shop w) same less (size_some w)
      (let f = ap (size_all shop) same
      in let g = size_open n w e
      in let all = fold_uses (walk_within shop n) (λ v. operations_left shop v ≡ n)
      (λ u v lack. (walk_takes n u v lack).uses) t (branch shop w) (children_lack_less n w e)
      in let p = all.less
      in let q = all.sizes
      in record { less = omega arith; sizes = omega arith }))

  any : (ws : List (List ℕ)) → AllByRecursion (λ v. Unit {0}) ws
  any [] = tt
  any (w ∷ ws) = (tt, any ws)

  pub words_uses : (s : Walk) (ws : List (List ℕ)) → Uses s (fold (walk shop) s ws) (size_all shop ws)
  words_uses s ws = fold_uses (walk shop) (λ v. Unit {0})
      (λ u v x. (walk_takes (operations_left shop v) u v refl).uses) s ws (any ws)

  -- a sheet leaves no more than its piece, and less where it may take a node
  pub sheet_leaves : (piece : List (List ℕ)) (best budget : ℕ)
      → size_all shop (sheet shop piece best budget).left ≤ size_all shop piece
  sheet_leaves piece best budget = grind (arith, words_uses, size_none)

  pub sheet_leaves_less : (w : List ℕ) (ws : List (List ℕ)) (best budget : ℕ) → 1 ≤ budget
      → size_all shop (sheet shop (w ∷ ws) best budget).left < size_all shop (w ∷ ws)
  sheet_leaves_less w ws best budget some = grind (arith, walk_takes, words_uses, size_none, size_cons)
