-- Lists: what holds of each element and of each pair, sublists, and intervals that are apart.
use Rattle.std.proofs.Common.{◌≡◌, ℕ, zero, suc, ◌+◌, ◌≤◌, ◌<◌, ◌⊎◌, inl, inr, Bool, true, not, List, [], ◌∷◌, ◌++◌}
use Rattle.std.proofs.{Common.{length, get_or, refl, arith, leb}, lemmas.List.Filters.sum_by-filter_both}
use Rattle.std.proofs.lemmas.Bool.{cases_Bool, cases_lt, leb-true, leb-false, not-true}
use Rattle.std.proofs.lemmas.List.Sums.{sum_by-cons, length-filter, count_by-le-length}
use Rattle.std.specs.List.{AllByRecursion, filter, sum_by}
use Rattle.shop_bound.specs.OneMachine.{least_of, greatest_of}

module _ {A : Type 0} where
  -- R holds of each element and each later one
  abbrev pub Pairwise : (A → A → Type 0) → List A → Type 0
  Pairwise R [] = Unit {0}
  Pairwise R (x ∷ xs) = AllByRecursion (R x) xs × Pairwise R xs

  pub all_map : (P Q : A → Type 0) → ((x : A) → P x → Q x) → (xs : List A) → AllByRecursion P xs → AllByRecursion Q xs
  all_map P Q f [] h = tt
  all_map P Q f (x ∷ xs) h = (f x h.0, all_map P Q f xs h.1)

  pub all_both : (P Q : A → Type 0) → (xs : List A) → AllByRecursion P xs → AllByRecursion Q xs
      → AllByRecursion (λ x. P x × Q x) xs
  all_both P Q [] h k = tt
  all_both P Q (x ∷ xs) h k = ((h.0, k.0), all_both P Q xs h.1 k.1)

  pub all_append : (P : A → Type 0) → (xs ys : List A) → AllByRecursion P xs → AllByRecursion P ys
      → AllByRecursion P (xs ++ ys)
  all_append P [] ys h k = k
  all_append P (x ∷ xs) ys h k = (h.0, all_append P xs ys h.1 k)

  pub all_filter : (test : A → Bool) (P Q : A → Type 0) → ((x : A) → P x → test x ≡ true → Q x) → (xs : List A)
      → AllByRecursion P xs → AllByRecursion Q (filter test xs)
  all_filter test P Q f [] h = tt
  all_filter test P Q f (x ∷ xs) h = grind (arith, cases_Bool, all_filter test P Q f xs h.1)

  pub pairwise_filter : (test : A → Bool) (R : A → A → Type 0) → (xs : List A) → Pairwise R xs
      → Pairwise R (filter test xs)
  pairwise_filter test R [] h = tt
  pairwise_filter test R (x ∷ xs) h = grind (arith, cases_Bool, all_filter, pairwise_filter test R xs h.1)

  pub pairwise_append : (R : A → A → Type 0) → (xs ys : List A) → Pairwise R xs → Pairwise R ys
      → AllByRecursion (λ x. AllByRecursion (R x) ys) xs → Pairwise R (xs ++ ys)
  pairwise_append R [] ys h k c = k
  pairwise_append R (x ∷ xs) ys h k c = (all_append (R x) xs ys h.0 c.0, pairwise_append R xs ys h.1 k c.1)

  -- ys is xs with some elements struck out
  pub data IsSublist : List A → List A → Type 0 where
    none : IsSublist [] []
    skip : {ys xs : List A} (x : A) → IsSublist ys xs → IsSublist ys (x ∷ xs)
    keep : {ys xs : List A} (x : A) → IsSublist ys xs → IsSublist (x ∷ ys) (x ∷ xs)

  -- the empty list is a sublist of each
  pub sublist_none : (xs : List A) → IsSublist [] xs
  sublist_none [] = none
  sublist_none (x ∷ xs) = skip x (sublist_none xs)

  pub all_sublist : (P : A → Type 0) {ys xs : List A} → IsSublist ys xs → AllByRecursion P xs → AllByRecursion P ys
  all_sublist P none h = tt
  all_sublist P (skip x s) h = all_sublist P s h.1
  all_sublist P (keep x s) h = (h.0, all_sublist P s h.1)

  pub pairwise_sublist : (R : A → A → Type 0) {ys xs : List A} → IsSublist ys xs → Pairwise R xs → Pairwise R ys
  pairwise_sublist R none h = tt
  pairwise_sublist R (skip x s) h = pairwise_sublist R s h.1
  pairwise_sublist R (keep x s) h = (all_sublist (R x) s h.0, pairwise_sublist R s h.1)

  pub greatest_of-le : (f : A → ℕ) (b : ℕ) → (xs : List A) → AllByRecursion (λ x. f x ≤ b) xs → greatest_of f xs ≤ b
  greatest_of-le f b [] h = omega arith
  greatest_of-le f b (x ∷ xs) h = let a = greatest_of-le f b xs h.1 in let c = h.0 in omega arith

  pub get_or-le-greatest_of : (f : A → ℕ) → (xs : List A) (i : ℕ) (d : A) → i < length xs
      → f (get_or xs i d) ≤ greatest_of f xs
  get_or-le-greatest_of f [] i d h = absurd (omega arith)
  get_or-le-greatest_of f (x ∷ xs) zero d h = omega arith
  get_or-le-greatest_of f (x ∷ xs) (suc i) d h = let a = get_or-le-greatest_of f xs i d (omega arith) in omega arith

  pub greatest_of-up_to : (f : A → ℕ) (b : ℕ) (d : A) → (xs : List A)
      → ((i : ℕ) → i < length xs → f (get_or xs i d) ≤ b) → greatest_of f xs ≤ b
  greatest_of-up_to f b d [] h = omega arith
  greatest_of-up_to f b d (x ∷ xs) h =
      let a = h 0 (omega arith) in let c = greatest_of-up_to f b d xs (λ i l. h (suc i) (omega arith)) in omega arith

  -- the least is one of the values
  pub least_of-is : (f : A → ℕ) (x : A) (xs : List A)
      → (i : ℕ) × (i < length (x ∷ xs)) × ((d : A) → f (get_or (x ∷ xs) i d) ≡ least_of f (x ∷ xs))
  least_of-is f x [] = (0, omega arith, λ d. refl)
  least_of-is f x (y ∷ ys) = let r = least_of-is f y ys in elim (cases_lt (least_of f (y ∷ ys)) (f x)) [
    | inl h ↦ (suc r.0, (let a = r.1 in omega arith), λ d. let a = r.2 d in omega arith)
    | inr h ↦ (0, omega arith, λ d. omega arith)
  ]

  pub least_of-le : (f : A → ℕ) → (xs : List A) → AllByRecursion (λ x. least_of f xs ≤ f x) xs
  least_of-le f [] = tt
  least_of-le f (x ∷ []) = (omega arith, tt)
  least_of-le f (x ∷ y ∷ ys) = grind (arith, all_map, least_of-le f (y ∷ ys))

  -- Intervals that are apart, from h on and up to b, are no longer together than that.
  pub packed : (s d : A → ℕ) (n : ℕ) (xs : List A) → length xs ≤ n → (h b : ℕ) → h ≤ b
      → AllByRecursion (λ x. (h ≤ s x) × (s x + d x ≤ b)) xs
      → Pairwise (λ x y. (s x + d x ≤ s y) ⊎ (s y + d y ≤ s x)) xs → h + sum_by d xs ≤ b
  packed s d n [] few h b le within apart = omega arith
  packed s d zero (x ∷ xs) few h b le within apart = absurd (omega arith)
  packed s d (suc n) (x ∷ xs) few h b le within apart =
      let test : A → Bool = λ y. leb (s y + d y) (s x)
      in let here = within.0
      in let sums = sum_by-filter_both test (λ y. not (test y)) (λ y. refl) d xs
      in let total = sum_by-cons d x xs
      in let before = packed s d n (filter test xs) (omega (arith, length-filter test xs, count_by-le-length test xs))
      h (s x) (omega arith)
      (all_filter test (λ y. (h ≤ s y) × (s y + d y ≤ b)) (λ y. (h ≤ s y) × (s y + d y ≤ s x))
      (λ y w e. (w.0, leb-true (s y + d y) (s x) e)) xs within.1)
      (pairwise_filter test (λ x y. (s x + d x ≤ s y) ⊎ (s y + d y ≤ s x)) xs apart.1)
      in let after = packed s d n (filter (λ y. not (test y)) xs)
      (omega (arith, length-filter (λ y. not (test y)) xs, count_by-le-length (λ y. not (test y)) xs)) (s x + d x)
      b (omega arith)
      (all_filter (λ y. not (test y)) (λ y. ((h ≤ s y) × (s y + d y ≤ b)) × ((s x + d x ≤ s y) ⊎ (s y + d y ≤ s x)))
      (λ y. (s x + d x ≤ s y) × (s y + d y ≤ b))
      (λ y w e. (
        elim w.1 [
          | inl a ↦ a
          | inr a ↦ grind (arith, leb-false, not-true)
        ],
        w.0.1,
      )) xs
      (all_both (λ y. (h ≤ s y) × (s y + d y ≤ b)) (λ y. (s x + d x ≤ s y) ⊎ (s y + d y ≤ s x)) xs within.1 apart.0))
      (pairwise_filter (λ y. not (test y)) (λ x y. (s x + d x ≤ s y) ⊎ (s y + d y ≤ s x)) xs apart.1)
      in omega arith
