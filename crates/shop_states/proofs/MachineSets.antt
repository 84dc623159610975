-- Machines as the bits of two words: one bit more, and the lowest taken out.
use Rattle.std.proofs.Common.{◌≡◌, ℕ, ◌+◌, ◌-◌, ◌*◌, ◌%◌, ◌^◌, ◌≤◌, ◌<◌, List, [], ◌∷◌, ◌++◌, sym, ◌∙◌, ap, subst}
use Rattle.std.{proofs.{Common.arith, lemmas.Nat.or_lt}, specs.Int.Bits.{bit_and, bit_or}}
use lib.Count.{count_trailing_zeros}
use Rattle.shop_lanes.{specs.SetBits.set_bits, proofs.MarkLemmas.{set_bits-lowest, set_bits-zero}}
use Rattle.shop_states.{specs.inner.JobSets.HasPut, proofs.JobSets.{bit_put, more_before, more_behind}}

-- the machines whose bits are set
abbrev pub machines_of : ℕ → ℕ → List ℕ
machines_of low high = set_bits 64 0 low ++ set_bits 64 64 high

pub put_low : (low high m bit : ℕ) → m < 64 → bit ≡ 2 ^ m
    → HasPut m (machines_of low high) (machines_of (bit_or low bit) high)
put_low low high m bit here is =
    let e : 0 + m ≡ m = omega arith
    in subst (λ (b : ℕ). HasPut m (machines_of low high) (machines_of (bit_or low b) high)) (sym is)
    (more_behind (λ q. q ≡ m) (set_bits 64 0 low) (set_bits 64 0 (bit_or low (2 ^ m))) (set_bits 64 64 high)
    (subst (λ (n : ℕ). HasPut n (set_bits 64 0 low) (set_bits 64 0 (bit_or low (2 ^ m)))) e (bit_put 0 low m here)))

pub put_high : (low high m bit : ℕ) → 64 ≤ m → m < 128 → bit ≡ 2 ^ (m - 64)
    → HasPut m (machines_of low high) (machines_of low (bit_or high bit))
put_high low high m bit from here is =
    let e : 64 + (m - 64) ≡ m = omega arith
    in subst (λ (b : ℕ). HasPut m (machines_of low high) (machines_of low (bit_or high b))) (sym is)
    (more_before (λ q. q ≡ m) (set_bits 64 64 high) (set_bits 64 64 (bit_or high (2 ^ (m - 64)))) (set_bits 64 0 low)
    (subst (λ (n : ℕ). HasPut n (set_bits 64 64 high) (set_bits 64 64 (bit_or high (2 ^ (m - 64))))) e
    (bit_put 64 high (m - 64) (omega arith))))

pub put_small : (number k : ℕ) → number < 2 ^ 64 → k < 64 → bit_or number (1 * 2 ^ k % 2 ^ 64) < 2 ^ 64
put_small number k small here = or_lt 64 number (1 * 2 ^ k % 2 ^ 64) small (omega arith)

pub none_put : machines_of 0 0 ≡ []
none_put = ap (λ (l : List ℕ). l ++ set_bits 64 64 0) (set_bits-zero 64 0) ∙ set_bits-zero 64 64

pub pop_low : (low high m : ℕ) → 0 < low → low < 2 ^ 64 → m ≡ count_trailing_zeros 64 low
    → machines_of low high ≡ m ∷ machines_of (bit_and low (low - 1)) high
pop_low low high m some small is = grind (arith, set_bits-lowest)

no_low : (low high : ℕ) → low ≡ 0 → machines_of low high ≡ set_bits 64 64 high
no_low low high none = grind (arith, set_bits-zero)

pub pop_high : (low high m : ℕ) → low ≡ 0 → 0 < high → high < 2 ^ 64 → m ≡ 64 + count_trailing_zeros 64 high
    → machines_of low high ≡ m ∷ machines_of low (bit_and high (high - 1))
pop_high low high m none some small is = grind (arith, no_low, set_bits-lowest)

pub pop_none : (low high : ℕ) → low ≡ 0 → high ≡ 0 → machines_of low high ≡ []
pop_none low high a b = no_low low high a ∙ ap (λ (x : ℕ). set_bits 64 64 x) b ∙ set_bits-zero 64 64
