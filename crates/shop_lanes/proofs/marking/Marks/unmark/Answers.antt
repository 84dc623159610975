use Rattle.std.proofs.Common.{◌≡◌, ℕ, ◌+◌, ◌-◌, ◌%◌, ◌*◌, ◌^◌, ◌≤◌, ◌<◌, ap, arith, refl, ◌∙◌, bit_and, w64}
use Rattle.std.{proofs.lemmas.Nat.Bits.{bit_at_clear_other, bit_at_clear_same}, specs.Int.{bit_at, bit_not}}
use Rattle.shop_lanes.{specs.Marks.without, proofs.Unmarking.set_bits-without}
use Rattle.shop_lanes.proofs.marking.Marks.unmark.Goals as goal

index_is : (position first index : ℕ) → position < 2 ^ 64 → first + 64 ≤ 2 ^ 64
    → index ≡ (position + (2 ^ 64 - first)) % 2 ^ 64 → (i : ℕ) → i < 64 → first + i ≡ position → i ≡ index
index_is position first index fits room is i here at = omega arith

index_at : (position first index : ℕ) → position < 2 ^ 64 → first + 64 ≤ 2 ^ 64
    → index ≡ (position + (2 ^ 64 - first)) % 2 ^ 64 → index < 64 → first + index ≡ position
index_at position first index fits room is inside = omega arith

pub returns-then-index-lt64 : goal.returns-then-index-lt64
returns-then-index-lt64 c =
    let first = c.self.inside.first in let bits = c.self.inside.bits in let position = c.args.position
    in let index = (position + (2 ^ 64 - first)) % 2 ^ 64
    in let inside : index < 64 = c.if-index-lt64.true
    in let at = index_at position first index c.ranges.position.fits c.self.invariant.0 refl inside
    in set_bits-without 64 first bits _ position
    (λ i here ne. bit_at_clear_other w64 bits index inside i here (λ e. ne (ap (λ k. first + k) e ∙ at)))
    (λ i here e. ap (bit_at (bit_and bits (bit_not w64 (1 * 2 ^ index % 2 ^ 64)))) (index_is position first index
    c.ranges.position.fits c.self.invariant.0 refl i here e)
    ∙ bit_at_clear_same w64 bits index inside)
    ∙ ap (without position) c.self.view_is

pub returns-else-index-lt64 : goal.returns-else-index-lt64
returns-else-index-lt64 c = grind (arith, set_bits-without, index_is)
