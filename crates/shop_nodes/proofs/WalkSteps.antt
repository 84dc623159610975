-- One turn of a walk.
use Rattle.std.proofs.Common.{◌≡◌, ℕ, zero, suc, ◌≤◌, Option, List, [], ◌∷◌, ◌++◌, length, map, refl, ◌∙◌, ap, arith}
use Rattle.std.proofs.lemmas.{Bool.{cases_Bool, le-leb}, List.{length-map, FromFn.length-range_with_len}}
use Rattle.std.{proofs.lemmas.List.Sums.{length-filter, count_by-le-length}, specs.List.range_with_len}
use Rattle.std.specs.Prelude.{nat_lt}
use Rattle.shop_model.specs.{Shop.{Shop, route_of}, Word.placing}
use Rattle.shop_bound.specs.Bound.{lb}
use Rattle.shop_nodes.specs.Branching.{branch, conflict, conflict_among, open_jobs, sort_by, insert_by, conflicts_with}
use Rattle.shop_nodes.specs.{Branching.chosen_of, Walking.{walk, walk_within, operations_left}}

module _ (shop : Shop) (found : Option (List ℕ)) (best : ℕ) (left : List (List ℕ)) (w : List ℕ) where
  within-left : (n : ℕ) → walk_within shop n (record { found = found; best = best; left = left; budget = 0 }) w
      ≡ record { found = found; best = best; left = left ++ w ∷ []; budget = 0 }
  within-left zero = refl
  within-left (suc n) = refl

  -- with no budget the word is left
  pub walk-left : (budget : ℕ) → budget ≡ 0
      → walk shop (record { found = found; best = best; left = left; budget = budget }) w
      ≡ record { found = found; best = best; left = left ++ w ∷ []; budget = budget }
  walk-left budget e = rw e (within-left (operations_left shop w))

  within-cut : (n b : ℕ) → best ≤ lb shop w
      → walk_within shop n (record { found = found; best = best; left = left; budget = suc b }) w
      ≡ record { found = found; best = best; left = left; budget = b }
  within-cut zero b h = rw (le-leb best (lb shop w) h) refl
  within-cut (suc n) b h = rw (le-leb best (lb shop w) h) refl

  -- where the bound isn't below the best nothing is left of it
  pub walk-cut : (b : ℕ) → best ≤ lb shop w
      → walk shop (record { found = found; best = best; left = left; budget = suc b }) w
      ≡ record { found = found; best = best; left = left; budget = b }
  walk-cut b h = within-cut (operations_left shop w) b h

-- there are no more children than jobs
pub length-insert_by : {A : Type 0} (key : A → ℕ) (x : A) (ys : List A) → length (insert_by key x ys) ≡ suc (length ys)
length-insert_by key x [] = refl
length-insert_by key x (y ∷ ys) = grind (arith, cases_Bool, length-insert_by key x ys)

pub length-sort_by : {A : Type 0} (key : A → ℕ) (xs : List A) → length (sort_by key xs) ≡ length xs
length-sort_by key [] = refl
length-sort_by key (x ∷ xs) = length-insert_by key x (sort_by key xs) ∙ ap suc (length-sort_by key xs)

pub branch_few : (shop : Shop) (w : List ℕ) → length (branch shop w) ≤ length shop.jobs
branch_few shop w =
    let a = length-sort_by (lb shop) (map (λ j. w ++ j ∷ []) (conflict shop w))
    in let b = length-map (conflict shop w) (λ j. w ++ j ∷ [])
    in let p = placing shop w
    in let c = few (open_jobs shop p)
    in let d = length-filter (λ j. nat_lt (p.steps j) (length (route_of shop j))) (range_with_len 0 (length shop.jobs))
    in let e = count_by-le-length (λ j. nat_lt (p.steps j) (length (route_of shop j)))
    (range_with_len 0 (length shop.jobs))
    in let f = length-range_with_len 0 (length shop.jobs) in omega arith
  where
    few : (js : List ℕ) → length (conflict_among shop (placing shop w) js) ≤ length js
    few [] = omega arith
    few (j ∷ js) = let test = conflicts_with shop (placing shop w) (chosen_of shop (placing shop w) j js)
        in let a = length-filter test (j ∷ js) in let b = count_by-le-length test (j ∷ js) in omega arith
