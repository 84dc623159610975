-- A symmetric relation of all pairs of a list doesn't depend on the list's order.
use Rattle.std.proofs.Common.{◌≡◌, ℕ, ◌<◌, ◌⊎◌, inl, inr, List, length, set, get_or, refl, sym, ◌∙◌, subst, arith}
use Rattle.std.proofs.lemmas.{Bool.{cases_eq, cases_order}, List.{length-set, get_or-set_same, get_or-set_other}}
use Rattle.std.{proofs.lemmas.List.{get_or_default, Sorted.IsPermutation-keeps}, specs.List.{AllPairs, swap}}
use Rattle.std.specs.List.Sorted.{IsPermutation}

module _ {X : Type 0} where
  -- what stands where after a swap
  swap-is : (xs : List X) (i j : ℕ) (d : X) → i < length xs → j < length xs
      → swap xs i j ≡ set (set xs i (get_or xs j d)) j (get_or xs i d)
  swap-is y i j d below other = grind (arith, get_or_default)

  -- the index to which the element at n goes
  record GoesTo (xs : List X) (i j n m : ℕ) : Type 0 where
    goes : ((n ≡ j) × (m ≡ i)) ⊎ (((n ≡ i) × (m ≡ j)) ⊎ ((n ≡ i → ⊥) × (n ≡ j → ⊥) × (m ≡ n)))

  goes_to : (xs : List X) (i j n : ℕ) → (m : ℕ) × GoesTo xs i j n m
  goes_to xs i j n = elim (cases_eq n j) [
    | inl e ↦ (i, record { goes = inl (e, refl) })
    | inr ne ↦ elim (cases_eq n i) [
      | inl f ↦ (j, record { goes = inr (inl (f, refl)) })
      | inr nf ↦ (n, record { goes = inr (inr (nf, ne, refl)) })
    ]
  ]

  -- it goes there
  swapped : (xs : List X) (i j n m : ℕ) (d : X) → i < length xs → j < length xs → n < length xs → GoesTo xs i j n m
      → (m < length xs) × (get_or (swap xs i j) m d ≡ get_or xs n d)
  swapped xs i j n m d a b c g = elim g.goes [
    | inl h ↦ (
      omega arith,
      rw (h.0, h.1, swap-is xs i j d a b) (elim (cases_eq i j) [
        | inl e ↦ rw e (get_or-set_same (set xs j (get_or xs j d)) j (get_or xs j d) d (rw length-set b))
        | inr ne ↦ get_or-set_other (set xs i (get_or xs j d)) j i (get_or xs i d) d ne
            ∙ get_or-set_same xs i (get_or xs j d) d a
      ]),
    )
    | inr g ↦ elim g [
      | inl h ↦ (
        omega arith,
        rw (h.0, h.1, swap-is xs i j d a b)
            (get_or-set_same (set xs i (get_or xs j d)) j (get_or xs i d) d (rw length-set b)),
      )
      | inr h ↦ (
        omega arith,
        rw (h.2, swap-is xs i j d a b)
            (get_or-set_other (set xs i (get_or xs j d)) j n (get_or xs i d) d h.1
            ∙ get_or-set_other xs i n (get_or xs j d) d h.0),
      )
    ]
  ]

  -- two elements don't go to one index
  goes_apart : (xs : List X) (i j p q m : ℕ) → GoesTo xs i j p m → GoesTo xs i j q m → p ≡ q
  goes_apart xs i j p q m one two = grind arith

  module _ (S : X → X → Type 0) (symmetric : (x y : X) → S x y → S y x) where
    unswapped : (xs : List X) (i j : ℕ) → i < length xs → j < length xs → AllPairs S (swap xs i j) → AllPairs S xs
    unswapped xs i j a b all p q d before below =
        let one = goes_to xs i j p
        in let two = goes_to xs i j q
        in let at = swapped xs i j p one.0 d a b (omega arith) one.1
        in let at' = swapped xs i j q two.0 d a b below two.1
        in let many : length (swap xs i j) ≡ length xs = rw (swap-is xs i j d a b, length-set, length-set) refl
        in let here = at.0 in let here' = at'.0
        in elim (cases_order one.0 two.0) [
          | inl e ↦ absurd (let same = goes_apart xs i j p q one.0 one.1
              (subst (λ (m : ℕ). GoesTo xs i j q m) (sym e) two.1) in omega arith)
          | inr order ↦ elim order [
            | inl h ↦ rw (at.1, at'.1) at (all one.0 two.0 d h (omega arith))
            | inr h ↦ symmetric (get_or xs q d) (get_or xs p d)
                (rw (at'.1, at.1) at (all two.0 one.0 d h (omega arith)))
          ]
        ]

    pub AllPairs-permutation : (xs ys : List X) → IsPermutation xs ys → AllPairs S ys → AllPairs S xs
    AllPairs-permutation xs ys p = IsPermutation-keeps xs (λ zs. AllPairs S zs → AllPairs S xs) (λ all. all)
        (λ zs i j a b before all. before (unswapped zs i j a b all)) ys p
