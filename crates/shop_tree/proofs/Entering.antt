-- What a walk finds when it goes on from a word.
use Rattle.std.proofs.Common.{◌≡◌, ℕ, zero, suc, ◌-◌, ◌≤◌, ◌<◌, false, Option, Some, List, [], ◌∷◌, ◌++◌, length, map}
use Rattle.std.proofs.{Common.{refl, ◌∙◌, ap, arith, leb, length-append}, lemmas.Bool.{cases_Bool, leb-true}}
use Rattle.std.specs.List.{AllByRecursion, fold}
use Rattle.shop_model.specs.Shop.{Shop, operation_count}
use Rattle.shop_bound.specs.Bound.{lb}
use Rattle.shop_nodes.specs.{Branching.{branch, conflict}, Walking.{Walk, walk, walk_within, operations_left}}
use Rattle.shop_nodes.proofs.Members.{all_sort}
use Rattle.shop_tree.specs.inner.Searching.{entered_within, entered}

module _ (shop : Shop) (found : Option (List ℕ)) (best : ℕ) (left : List (List ℕ)) (w : List ℕ) where
  above : lb shop w < best → leb best (lb shop w) ≡ false
  above h = grind (arith, cases_Bool, leb-true)

  within-entered : (n b : ℕ) → lb shop w < best → walk_within shop n
      (record { found = found; best = best; left = left; budget = suc b }) w
      ≡ entered_within shop n (record { found = found; best = best; left = left; budget = b }) w
  within-entered zero b h = rw (above h) refl
  within-entered (suc n) b h = rw (above h) refl

  -- from a word whose bound is below the best the walk goes on
  pub walk-entered : (b : ℕ) → lb shop w < best
      → walk shop (record { found = found; best = best; left = left; budget = suc b }) w
      ≡ entered shop (record { found = found; best = best; left = left; budget = b }) w
  walk-entered b h = within-entered (operations_left shop w) b h

-- each child lacks one operation less
children_lack : (shop : Shop) (n : ℕ) (w : List ℕ) (js : List ℕ) → operations_left shop w ≡ suc n
    → AllByRecursion (λ v. operations_left shop v ≡ n) (map (λ j. w ++ j ∷ []) js)
children_lack shop n w [] e = tt
children_lack shop n w (j ∷ js) e = ((let a = length-append w (j ∷ []) in omega arith), children_lack shop n w js e)

fold_within : (shop : Shop) (n : ℕ) (s : Walk) (ws : List (List ℕ))
    → AllByRecursion (λ v. operations_left shop v ≡ n) ws
    → fold (walk_within shop n) s ws ≡ fold (walk shop) s ws
fold_within shop n s [] h = refl
fold_within shop n s (w ∷ ws) h = grind (arith, fold_within shop n (walk_within shop n s w) ws h.1)

-- of a word that isn't full the children are walked
pub entered-children : (shop : Shop) (t : Walk) (w : List ℕ) → length w < operation_count shop
    → entered shop t w ≡ fold (walk shop) t (branch shop w)
entered-children shop t w short =
    let n = operations_left shop w - 1
    in let e : operations_left shop w ≡ suc n = omega arith
    in ap (λ m. entered_within shop m t w) e
    ∙ fold_within shop n t (branch shop w)
    (all_sort (lb shop) (λ v. operations_left shop v ≡ n) (map (λ j. w ++ j ∷ []) (conflict shop w))
    (children_lack shop n w (conflict shop w) e))

-- a full word is found
pub entered-full : (shop : Shop) (t : Walk) (w : List ℕ) → operation_count shop ≤ length w
    → entered shop t w ≡ record t { found = Some w; best = lb shop w }
entered-full shop t w long = grind arith
