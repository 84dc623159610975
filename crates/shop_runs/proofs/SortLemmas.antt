-- Lists in order of a key: what is sorted, and what stays in order.
use Rattle.std.proofs.Common.{ℕ, zero, suc, ◌≡◌, ◌≤◌, Bool, inl, inr, List, [], ◌∷◌, drop, filter, refl, ◌∙◌, ap, arith}
use Rattle.std.{proofs.lemmas.Bool.{cases_Bool, leb-true, leb-false, le-leb}, specs.List.AllByRecursion}
use Rattle.shop_bound.proofs.Lists.{all_filter, all_map}
use Rattle.shop_nodes.{specs.Branching.{insert_by, sort_by}, proofs.Members.all_insert}

module _ {A : Type 0} (key : A → ℕ) where
  -- the key of each element is at most that of each later one
  abbrev pub Rises : List A → Type 0
  Rises [] = Unit {0}
  Rises (x ∷ xs) = AllByRecursion (λ y. key x ≤ key y) xs × Rises xs

  insert_rises : (x : A) (ys : List A) → Rises ys → Rises (insert_by key x ys)
  insert_rises x [] r = (tt, tt)
  insert_rises x (y ∷ ys) r = grind (arith, cases_Bool, leb-true, all_map, leb-false, all_insert, insert_rises x ys r.1)

  pub sort_rises : (xs : List A) → Rises (sort_by key xs)
  sort_rises [] = tt
  sort_rises (x ∷ xs) = insert_rises x (sort_by key xs) (sort_rises xs)

  -- what has no greater key than all others goes first
  pub insert_low : (x : A) (ys : List A) → AllByRecursion (λ y. key x ≤ key y) ys → insert_by key x ys ≡ x ∷ ys
  insert_low x [] a = refl
  insert_low x (y ∷ ys) a = rw (le-leb (key x) (key y) a.0) refl

  -- a list in order stays as it is, and so do its parts
  pub sort_fixed : (xs : List A) → Rises xs → sort_by key xs ≡ xs
  sort_fixed [] r = refl
  sort_fixed (x ∷ xs) r = ap (insert_by key x) (sort_fixed xs r.1) ∙ insert_low x xs r.0

  pub rises_drop : (n : ℕ) (xs : List A) → Rises xs → Rises (drop n xs)
  rises_drop zero xs r = r
  rises_drop (suc n) [] r = tt
  rises_drop (suc n) (x ∷ xs) r = rises_drop n xs r.1

  pub rises_filter : (p : A → Bool) (xs : List A) → Rises xs → Rises (filter p xs)
  rises_filter p [] r = tt
  rises_filter p (x ∷ xs) r = elim (cases_Bool (p x)) [
    | inl t ↦ rw t (
      all_filter p (λ y. key x ≤ key y) (λ y. key x ≤ key y) (λ y h e. h) xs r.0,
      rises_filter p xs r.1,
    )
    | inr f ↦ rw f (rises_filter p xs r.1)
  ]
