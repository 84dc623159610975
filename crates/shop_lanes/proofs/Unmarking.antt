-- One position unmarked: in bits, and by the head that is set to 0 there.
use Rattle.std.proofs.Common.{◌≡◌, ℕ, zero, suc, ◌+◌, ◌/◌, ◌%◌, ◌<◌, Bool, false, inl, inr, List, [], ◌⊎◌, ◌∷◌, length}
use Rattle.std.proofs.{Common.{get_or, set, refl, ap, sym, ◌∙◌, arith}, lemmas.Bool.{cases_Bool, cases_eq, cases_lt}}
use Rattle.std.proofs.lemmas.{Bool.{eq-eqb, ne_eqb}, Grind.get_or-set_at, List.{get_or-drop, get_or-set_other}}
use Rattle.std.proofs.lemmas.List.{get_or-take, get_or_past, length-drop, length-set, length-take}
use Rattle.std.{proofs.lemmas.Nat.Bits.{bit_at-suc, bit_at_lowest}, specs.Int.bit_at}
use Rattle.shop_lanes.specs.{Marks.{marked, positions_among, without}, SetBits.set_bits}
use Rattle.shop_lanes.proofs.MarkLemmas.{set_bits-even, set_bits-odd}

without-same : (q p : ℕ) (ps : List ℕ) → p ≡ q → without q (p ∷ ps) ≡ without q ps
without-same q p ps e = rw (eq-eqb p q e) refl

without-other : (q p : ℕ) (ps : List ℕ) → (p ≡ q → ⊥) → without q (p ∷ ps) ≡ p ∷ without q ps
without-other q p ps ne = rw (ne_eqb p q ne) refl

-- `c` has the bits of `m`, but for that at position q
pub set_bits-without : (n at m c q : ℕ) → ((i : ℕ) → i < n → (at + i ≡ q → ⊥) → bit_at c i ≡ bit_at m i)
    → ((i : ℕ) → i < n → at + i ≡ q → bit_at c i ≡ 0) → set_bits n at c ≡ without q (set_bits n at m)
unfolding set_bits
set_bits-without zero at m c q same clear = refl
set_bits-without (suc n) at m c q same clear =
    let rest : set_bits n (at + 1) (c / 2) ≡ without q (set_bits n (at + 1) (m / 2)) =
    set_bits-without n (at + 1) (m / 2) (c / 2) q
    (λ i here ne. sym (bit_at-suc c i) ∙ same (suc i) (omega arith) (λ e. ne (omega arith)) ∙ bit_at-suc m i)
    (λ i here e. sym (bit_at-suc c i) ∙ clear (suc i) (omega arith) (omega arith))
    in elim (cases_eq at q) [
      | inl e ↦ (let none : c % 2 ≡ 0 = sym (bit_at_lowest c) ∙ clear 0 (omega arith) (omega arith)
          in set_bits-even n at c none ∙ rest ∙ elim (odd_or_even m) [
            | inl odd ↦ sym (ap (without q) (set_bits-odd n at m odd) ∙ without-same q at _ e)
            | inr even ↦ sym (ap (without q) (set_bits-even n at m even))
          ])
      | inr ne ↦ (let one : c % 2 ≡ m % 2 =
          sym (bit_at_lowest c) ∙ same 0 (omega arith) (λ e. ne (omega arith)) ∙ bit_at_lowest m
          in elim (odd_or_even m) [
            | inl odd ↦ set_bits-odd n at c (one ∙ odd) ∙ ap (λ ps. at ∷ ps) rest
                ∙ sym (ap (without q) (set_bits-odd n at m odd) ∙ without-other q at _ ne)
            | inr even ↦ grind (arith, set_bits-even n at c (one ∙ even), set_bits-even n at m even)
          ])
    ]
  where
    odd_or_even : (k : ℕ) → (k % 2 ≡ 1) ⊎ (k % 2 ≡ 0)
    odd_or_even k = elim (cases_eq (k % 2) 1) [ inl e ↦ inl e | inr e ↦ inr (omega arith) ]

-- `ys` has the numbers of `xs`, but for that at position q, which doesn't pass
marked-without : (p : ℕ → Bool) (at q : ℕ) (xs ys : List ℕ) → length ys ≡ length xs
    → ((i : ℕ) → i < length xs → (at + i ≡ q → ⊥) → get_or ys i 0 ≡ get_or xs i 0)
    → ((i : ℕ) → i < length xs → at + i ≡ q → p (get_or ys i 0) ≡ false)
    → marked p at ys ≡ without q (marked p at xs)
marked-without p at q [] [] long same fails = refl
marked-without p at q [] (y ∷ ys) long same fails = absurd (omega arith)
marked-without p at q (x ∷ xs) [] long same fails = absurd (omega arith)
marked-without p at q (x ∷ xs) (y ∷ ys) long same fails =
    let rest : marked p (at + 1) ys ≡ without q (marked p (at + 1) xs) =
    marked-without p (at + 1) q xs ys (omega arith)
    (λ i here ne. same (suc i) (omega arith) (λ e. ne (omega arith)))
    (λ i here e. fails (suc i) (omega arith) (omega arith))
    in elim (cases_eq at q) [
      | inl e ↦ (let none : p y ≡ false = fails 0 (omega arith) (omega arith)
          in elim (cases_Bool (p x)) [
            | inl t ↦ rw (none, t) (rest ∙ sym (without-same q at (marked p (at + 1) xs) e))
            | inr f ↦ rw (none, f) rest
          ])
      | inr ne ↦ (let one : y ≡ x = same 0 (omega arith) (λ e. ne (omega arith))
          in elim (cases_Bool (p x)) [
            | inl t ↦ rw (one, t) (ap (λ ps. at ∷ ps) rest ∙ sym (without-other q at (marked p (at + 1) xs) ne))
            | inr f ↦ rw (one, f) rest
          ])
    ]

-- nothing waits any more where a head is set to 0, and all else as before
pub positions_among-set : (heads : List ℕ) (from to limit q : ℕ)
    → positions_among (set heads q 0) from to limit ≡ without q (positions_among heads from to limit)
positions_among-set heads from to limit q =
    grind (
      arith,
      marked-without,
      get_or-set_other,
      length-take,
      length-drop,
      length-set,
      get_or-take,
      get_or-drop,
      cases_lt,
      get_or-set_at,
      get_or_past,
    )
