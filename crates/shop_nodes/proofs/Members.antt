-- Members of lists, and the first least of a list.
use Rattle.std.proofs.Common.{◌≡◌, ℕ, zero, suc, ◌+◌, ◌≤◌, ◌<◌, ◌⊎◌, inl, inr, Bool, true, List, [], ◌∷◌, ◌++◌, length}
use Rattle.std.proofs.{Common.{get_or, map, refl, sym, ap, subst, arith, ltb, leb}, lemmas.Bool.{cases_Bool, cases_eq}}
use Rattle.std.specs.List.{AllByRecursion, Contains, filter, flat_map, range_with_len, best_of}
use Rattle.shop_nodes.specs.Branching.{insert_by, sort_by}

module _ {A : Type 0} where
  -- x is an element of the list
  abbrev pub In : A → List A → Type 0
  In x [] = ⊥
  In x (y ∷ ys) = (x ≡ y) ⊎ In x ys

  pub in_all : (P : A → Type 0) (x : A) (xs : List A) → In x xs → AllByRecursion P xs → P x
  in_all P x (y ∷ ys) h a = elim h [ inl e ↦ subst P (sym e) a.0 | inr g ↦ in_all P x ys g a.1 ]
  in_all P x [] h a = absurd h

  pub all_in : (P : A → Type 0) (xs : List A) → ((x : A) → In x xs → P x) → AllByRecursion P xs
  all_in P [] f = tt
  all_in P (x ∷ xs) f = (f x (inl refl), all_in P xs (λ y h. f y (inr h)))

  -- the same, by positions
  pub contains_in : (x : A) (xs : List A) → In x xs → Contains xs x
  contains_in x [] h = absurd h
  contains_in x (y ∷ ys) h = elim h [
    | inl e ↦ (0, omega arith, sym e)
    | inr g ↦
        (let r = contains_in x ys g in (suc r.0, omega arith, r.2))
  ]

  in_at : (x : A) (xs : List A) (k : ℕ) → k < length xs → get_or xs k x ≡ x → In x xs
  in_at x [] k h e = absurd (omega arith)
  in_at x (y ∷ ys) zero h e = inl (sym e)
  in_at x (y ∷ ys) (suc k) h e = inr (in_at x ys k (omega arith) e)

  pub in_contains : (x : A) (xs : List A) → Contains xs x → In x xs
  in_contains x xs c = in_at x xs c.0 c.1 c.2

  pub all_contains : (P : A → Type 0) (xs : List A) → ((x : A) → Contains xs x → P x) → AllByRecursion P xs
  all_contains P xs f = all_in P xs (λ x h. f x (contains_in x xs h))

  pub contains_all : (P : A → Type 0) (xs : List A) → AllByRecursion P xs → (x : A) → Contains xs x → P x
  contains_all P xs a x c = in_all P x xs (in_contains x xs c) a

  -- what holds of each element holds of each in order
  pub all_insert : (key : A → ℕ) (P : A → Type 0) (x : A) (ys : List A) → P x → AllByRecursion P ys
      → AllByRecursion P (insert_by key x ys)
  all_insert key P x [] p a = (p, tt)
  all_insert key P x (y ∷ ys) p a = grind (arith, cases_Bool, all_insert key P x ys p a.1)

  pub all_sort : (key : A → ℕ) (P : A → Type 0) (xs : List A) → AllByRecursion P xs → AllByRecursion P (sort_by key xs)
  all_sort key P [] a = tt
  all_sort key P (x ∷ xs) a = all_insert key P x (sort_by key xs) a.0 (all_sort key P xs a.1)

  pub in_left : (x : A) (xs ys : List A) → In x xs → In x (xs ++ ys)
  in_left x [] ys h = absurd h
  in_left x (y ∷ xs) ys h = elim h [ inl e ↦ inl e | inr g ↦ inr (in_left x xs ys g) ]

  pub in_right : (x : A) (xs ys : List A) → In x ys → In x (xs ++ ys)
  in_right x [] ys h = h
  in_right x (y ∷ xs) ys h = inr (in_right x xs ys h)

  pub in_filter : (test : A → Bool) (x : A) (xs : List A) → In x xs → test x ≡ true → In x (filter test xs)
  in_filter test x [] h t = absurd h
  in_filter test x (y ∷ ys) h t = elim (cases_Bool (test y)) [
    | inl e ↦ rw e (elim h [ inl s ↦ inl s | inr g ↦ inr (in_filter test x ys g t) ])
    | inr e ↦ rw e (elim h [
      | inl s ↦ (let u : test x ≡ test y = ap test s in absurd (cc))
      | inr g ↦ grind (arith, in_filter test x ys g t)
    ])
  ]

  pub in_insert_first : (key : A → ℕ) (x : A) (ys : List A) → In x (insert_by key x ys)
  in_insert_first key x [] = inl refl
  in_insert_first key x (y ∷ ys) = grind (arith, cases_Bool, in_insert_first key x ys)

  pub in_insert_other : (key : A → ℕ) (x z : A) (ys : List A) → In z ys → In z (insert_by key x ys)
  in_insert_other key x z [] h = absurd h
  in_insert_other key x z (y ∷ ys) h = elim (cases_Bool (leb (key x) (key y))) [
    | inl e ↦ rw e (inr h)
    | inr e ↦ rw e (elim h [ inl s ↦ inl s | inr g ↦ inr (in_insert_other key x z ys g) ])
  ]

  -- what is sorted keeps its elements
  pub in_sort : (key : A → ℕ) (z : A) (xs : List A) → In z xs → In z (sort_by key xs)
  in_sort key z [] h = absurd h
  in_sort key z (x ∷ xs) h = elim h [
    | inl e ↦ rw e (in_insert_first key x (sort_by key xs))
    | inr g ↦ in_insert_other key x z (sort_by key xs) (in_sort key z xs g)
  ]

  -- the first least of a list is one of its elements, and none is less
  pub record IsLeastOf (f : A → ℕ) (b : A) (xs : List A) : Type 0 where
    pub member : In b xs
    pub least : (x : A) → In x xs → f b ≤ f x

  pub best_of-least : (f : A → ℕ) (a : A) (xs : List A) → IsLeastOf f (best_of (λ x b. ltb (f x) (f b)) a xs) (a ∷ xs)
  best_of-least f a [] = grind arith
  best_of-least f a (y ∷ ys) = grind (arith, best_of-least f y ys, best_of-least f a ys)

pub in_map : {A B : Type 0} (g : A → B) (x : A) (xs : List A) → In x xs → In (g x) (map g xs)
in_map g x [] h = absurd h
in_map g x (y ∷ ys) h = elim h [ inl e ↦ inl (ap g e) | inr k ↦ inr (in_map g x ys k) ]

pub in_flat_map : {A B : Type 0} (g : A → List B) (x : A) (y : B) (xs : List A) → In x xs → In y (g x)
    → In y (flat_map g xs)
in_flat_map g x y [] h k = absurd h
in_flat_map g x y (z ∷ zs) h k = elim h [
  | inl e ↦ in_left y (g z) (flat_map g zs) (rw e at k)
  | inr i ↦ in_right y (g z) (flat_map g zs) (in_flat_map g x y zs i k)
]

pub in_range : (a n j : ℕ) → a ≤ j → j < a + n → In j (range_with_len a n)
in_range a zero j h k = absurd (omega arith)
in_range a (suc n) j h k = elim (cases_eq j a) [
  | inl e ↦ inl e
  | inr ne ↦ grind (arith, in_range (a + 1) n j (omega arith) (omega arith))
]
