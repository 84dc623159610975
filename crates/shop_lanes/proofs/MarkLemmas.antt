-- Bits as positions: the lowest taken out, none left, and the mask of a test.
use Rattle.std.proofs.Common.{◌≡◌, ℕ, zero, suc, ◌+◌, ◌-◌, ◌/◌, ◌%◌, ◌^◌, ◌<◌, ◌≤◌, Bool, List, [], ◌∷◌, length, map}
use Rattle.std.proofs.Common.{refl, ap, sym, ◌∙◌, arith, min, ◌↔◌, IsTrue, nat_eq, pow-suc}
use Rattle.std.proofs.lemmas.{Bool.{Decides.nat_tests, cases_eq}, Nat.Bits.{bit_at_and, bit_at-suc, bit_at_lowest}}
use Rattle.std.{proofs.lemmas.Nat.Bits.same_from_bits, specs.Int.{Bits.{bit_and, and_self}, bit_at}}
use lib.{Count.count_trailing_zeros, Lanes.mask_l}
use Rattle.shop_lanes.specs.{Marks.marked, SetBits.set_bits}

pub half_and : (a b : ℕ) → bit_and a b / 2 ≡ bit_and (a / 2) (b / 2)
half_and a b = same_from_bits (bit_and a b / 2) (bit_and (a / 2) (b / 2)) (λ i.
    sym (bit_at-suc (bit_and a b) i)
    ∙ bit_at_and a b (suc i)
    ∙ ap (λ x. min x (bit_at b (suc i))) (bit_at-suc a i)
    ∙ ap (λ x. min (bit_at (a / 2) i) x) (bit_at-suc b i)
    ∙ sym (bit_at_and (a / 2) (b / 2) i))

pub lowest_and : (a b : ℕ) → bit_and a b % 2 ≡ min (a % 2) (b % 2)
lowest_and a b = grind (arith, bit_at_lowest (bit_and a b), bit_at_and a b 0, bit_at_lowest a, bit_at_lowest b)

pub set_bits-zero : (n at : ℕ) → set_bits n at 0 ≡ []
unfolding set_bits
set_bits-zero zero at = refl
set_bits-zero (suc n) at = set_bits-zero n (at + 1)

pub set_bits-odd : (n at m : ℕ) → m % 2 ≡ 1 → set_bits (suc n) at m ≡ at ∷ set_bits n (at + 1) (m / 2)
unfolding set_bits
set_bits-odd n at m h = rw h refl

pub set_bits-even : (n at m : ℕ) → m % 2 ≡ 0 → set_bits (suc n) at m ≡ set_bits n (at + 1) (m / 2)
unfolding set_bits
set_bits-even n at m h = rw h refl

-- the mask of a test has the positions that pass it
pub set_bits-mask : (p : ℕ → Bool) (n at : ℕ) (xs : List ℕ) → length xs ≤ n
    → set_bits n at (mask_l (map p xs)) ≡ marked p at xs
set_bits-mask p n at [] le = set_bits-zero n at
set_bits-mask p zero at (x ∷ xs) le = absurd (omega arith)
set_bits-mask p (suc n) at (x ∷ xs) le = grind (arith, set_bits-odd, set_bits-even, set_bits-mask p n (at + 1) xs)

pub odd_lowest : (k m : ℕ) → m % 2 ≡ 1 → count_trailing_zeros (suc k) m ≡ 0
unfolding count_trailing_zeros
odd_lowest k m h = rw h refl

pub even_lowest : (k m : ℕ) → m % 2 ≡ 0 → count_trailing_zeros (suc k) m ≡ suc (count_trailing_zeros k (m / 2))
unfolding count_trailing_zeros
even_lowest k m h = rw h refl

-- the lowest set bit is the first position, and what is left is the number and one less
pub set_bits-lowest : (n at m : ℕ) → 0 < m → m < 2 ^ n
    → set_bits n at m ≡ (at + count_trailing_zeros n m) ∷ set_bits n at (bit_and m (m - 1))
set_bits-lowest zero at m some small = absurd (omega arith)
set_bits-lowest (suc n) at m some small =
    grind (
      arith,
      bit_and,
      lowest_and,
      half_and,
      and_self,
      odd_lowest,
      set_bits-odd,
      set_bits-even,
      pow-suc,
      even_lowest,
      count_trailing_zeros,
      cases_eq,
      set_bits-lowest n (at + 1) (m / 2),
    )

-- no position is left exactly where no bit is
pub no_bits_exactly : (n at m : ℕ) (marks : List ℕ) → m < 2 ^ n → set_bits n at m ≡ marks
    → IsTrue (nat_eq m 0) ↔ (marks ≡ [])
no_bits_exactly n at m marks small is = grind (arith, nat_tests, set_bits-zero, cases_eq, set_bits-lowest)
