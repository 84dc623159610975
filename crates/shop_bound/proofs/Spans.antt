-- The greatest span of a sublist, as a least upper bound.
use Rattle.std.{proofs.Common.{rules, arith, ◌≡◌, ℕ, ◌≤◌, List, [], ◌∷◌, map, refl, ap}, specs.List.AllByRecursion}
use Rattle.shop_bound.specs.OneMachine.{sublists, greatest_of}
use Rattle.shop_bound.proofs.Lists.{IsSublist, none, skip, keep, all_append, all_map, greatest_of-le}

module _ {A B : Type 0} where
  -- X stands for a sublist of xs
  abbrev pub IsImage : (A → B) → List A → List B → Type 0
  IsImage g xs X = (ys : List A) × (X ≡ map g ys) × IsSublist ys xs

  image_skip : (g : A → B) (x : A) (xs : List A) (X : List B) → IsImage g xs X → IsImage g (x ∷ xs) X
  image_skip g x xs X h = (h.0, h.1, skip x h.2)

  images_keep : (g : A → B) (x : A) (xs : List A) (Xs : List (List B)) → AllByRecursion (IsImage g xs) Xs
      → AllByRecursion (IsImage g (x ∷ xs)) (map (λ ys. g x ∷ ys) Xs)
  images_keep g x xs [] h = tt
  images_keep g x xs (X ∷ Xs) h = ((x ∷ h.0.0, ap (λ ys. g x ∷ ys) h.0.1, keep x h.0.2), images_keep g x xs Xs h.1)

  -- the sublists of an image are the images of sublists
  pub sublists-images : (g : A → B) (xs : List A) → AllByRecursion (IsImage g xs) (sublists (map g xs))
  sublists-images g [] = (([], refl, none), tt)
  sublists-images g (x ∷ xs) = search (rules, all_append, all_map, image_skip, images_keep, sublists-images g xs)

  -- a bound on each sublist bounds the greatest
  pub greatest_sublist-le : (g : A → B) (f : List B → ℕ) (b : ℕ) (xs : List A)
      → ((ys : List A) → IsSublist ys xs → f (map g ys) ≤ b) → greatest_of f (sublists (map g xs)) ≤ b
  greatest_sublist-le g f b xs h = grind (arith, greatest_of-le, all_map, sublists-images)
