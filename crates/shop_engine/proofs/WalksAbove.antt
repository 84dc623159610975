-- A search from words of no smaller bounds than b leaves none that is smaller.
use Rattle.std.proofs.Common.{ℕ, zero, suc, ◌≤◌, Bool, true, false, None, List, [], ◌∷◌, ◌++◌, map, arith, leb}
use Rattle.std.specs.List.{AllByRecursion, fold}
use Rattle.shop_model.specs.{Shop.Shop, Limits.IsWithinLimits, Word.IsWord}
use Rattle.shop_bound.{specs.Bound.lb, proofs.{BoundsRise.bounds_rise, Lists.all_append}}
use Rattle.shop_nodes.specs.{Branching.{conflict, branch}, Walking.{Walk, walk, walk_within, operations_left, taking}}
use Rattle.shop_nodes.{specs.Walking.{unless_cut, sheet}, proofs.{Found.conflict_words, Members.all_sort}}

module _ (shop : Shop) (limits : IsWithinLimits shop) (b : ℕ) where
  -- a word of a bound of b or more
  pub record IsAbove (w : List ℕ) : Type 0 where
    pub word : IsWord shop w
    pub above : b ≤ lb shop w

  longer : (w : List ℕ) → IsAbove w → (js : List ℕ) → AllByRecursion (λ j. IsWord shop (w ++ j ∷ [])) js
      → AllByRecursion IsAbove (map (λ j. w ++ j ∷ []) js)
  longer w a [] h = tt
  longer w a (j ∷ js) h = (
    record {
      word = h.0;
      above = (let r = bounds_rise shop w (j ∷ []) limits h.0 in let k = a.above in omega arith);
    },
    longer w a js h.1,
  )

  children_above : (w : List ℕ) → IsAbove w → AllByRecursion IsAbove (branch shop w)
  children_above w a = all_sort (lb shop) IsAbove (map (λ j. w ++ j ∷ []) (conflict shop w))
      (longer w a (conflict shop w) (conflict_words shop w a.word))

  LeavesAbove : Walk → Type 0
  LeavesAbove s = AllByRecursion IsAbove s.left

  taking_above : (n : ℕ) (s : Walk) (w : List ℕ) (go : Walk → Walk) → IsAbove w → LeavesAbove s
      → ((t : Walk) → LeavesAbove t → LeavesAbove (go t)) → LeavesAbove (taking n s w go)
  unfolding LeavesAbove
  taking_above zero s w go a i h = all_append IsAbove s.left (w ∷ []) i (a, tt)
  taking_above (suc n) s w go a i h = h (record s { budget = n }) i

  cut_above : (test : Bool) (t : Walk) (go : Walk → Walk) → LeavesAbove t → LeavesAbove (go t)
      → LeavesAbove (unless_cut test t go)
  cut_above true t go i h = i
  cut_above false t go i h = h

  fold_above : (f : Walk → List ℕ → Walk) → ((s : Walk) (w : List ℕ) → IsAbove w → LeavesAbove s → LeavesAbove (f s w))
      → (s : Walk) (ws : List (List ℕ)) → AllByRecursion IsAbove ws → LeavesAbove s → LeavesAbove (fold f s ws)
  fold_above f h s [] a i = i
  fold_above f h s (w ∷ ws) a i = fold_above f h (f s w) ws a.1 (h s w a.0 i)

  walk_above : (n : ℕ) (s : Walk) (w : List ℕ) → IsAbove w → LeavesAbove s → LeavesAbove (walk_within shop n s w)
  unfolding LeavesAbove
  walk_above zero s w a i = grind (arith, taking_above)
  walk_above (suc n) s w a i =
      taking_above s.budget s w _ a i (λ t k. cut_above (leb t.best (lb shop w)) t _ k
      (fold_above (walk_within shop n) (λ u c above j. walk_above n u c above j) t (branch shop w)
      (children_above w a) k))

  pub sheet_above : (piece : List (List ℕ)) (best budget : ℕ) → AllByRecursion IsAbove piece
      → AllByRecursion IsAbove (sheet shop piece best budget).left
  unfolding LeavesAbove
  sheet_above piece best budget a =
      fold_above (walk shop) (λ s w above i. walk_above (operations_left shop w) s w above i)
      (record { found = None; best = best; left = []; budget = budget }) piece a tt
