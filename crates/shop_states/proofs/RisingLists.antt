-- Lists of numbers each of which is below all later ones.
use Rattle.std.proofs.Common.{◌≡◌, ℕ, ◌+◌, ◌≤◌, ◌<◌, inl, inr, List, [], ◌∷◌, length, refl, sym, arith}
use Rattle.shop_states.specs.inner.RisingLists.{IsIn, Rises}

-- numbers that rise from a on and are below n are at most n - a
pub rising_short : (xs : List ℕ) (a n : ℕ) → a ≤ n → Rises xs → ((q : ℕ) → IsIn xs q → (a ≤ q) × (q < n))
    → length xs + a ≤ n
rising_short [] a n le r within = omega arith
rising_short (x ∷ xs) a n le r within =
    let here = within x (inl refl)
    in let b = here.0 in let d = here.1
    in let rest = rising_short xs (x + 1) n (omega arith) r.1 (λ q h. let e = r.0 q h in let f = (within q (inr h)).1
    in (omega arith, omega arith))
    in omega arith

pub none_in : (xs : List ℕ) → ((q : ℕ) → IsIn xs q → ⊥) → xs ≡ []
none_in [] none = refl
none_in (x ∷ xs) none = absurd (none x (inl refl))

-- one list for the same numbers
pub one_rising : (xs ys : List ℕ) → Rises xs → Rises ys → ((q : ℕ) → IsIn xs q → IsIn ys q)
    → ((q : ℕ) → IsIn ys q → IsIn xs q) → xs ≡ ys
one_rising [] [] r s to back = refl
one_rising [] (y ∷ ys) r s to back = absurd (back y (inl refl))
one_rising (x ∷ xs) [] r s to back = absurd (to x (inl refl))
one_rising (x ∷ xs) (y ∷ ys) r s to back =
    let same : x ≡ y = elim (to x (inl refl)) [
      | inl e ↦ e
      | inr h ↦ elim (back y (inl refl)) [
        | inl e ↦ sym e
        | inr g ↦ (let a = s.0 x h in let b = r.0 y g in absurd (omega arith))
      ]
    ]
    in let rest : xs ≡ ys = one_rising xs ys r.1 s.1 (λ q h. elim (to q (inr h)) [
      | inl e ↦ (let a = r.0 q h in absurd (omega arith))
      | inr g ↦ g
    ]) (λ q h. elim (back q (inr h)) [
      | inl e ↦ (let a = s.0 q h in absurd (omega arith))
      | inr g ↦ g
    ])
    in rw (same, rest) refl
