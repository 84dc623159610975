-- What the masks of comparisons tell of vectors, as bits.
use Rattle.std.proofs.Common.{◌≡◌, ℕ, zero, suc, ◌-◌, ◌%◌, ◌≤◌, ◌^◌, Bool, cond, ltb, leb, List, [], ◌∷◌, length, map}
use Rattle.std.proofs.{Common.{replicate, refl, ap, ◌∙◌, arith}, lemmas.List.length-map, lemmas.Simd.mask_l-mod}
use Rattle.std.specs.Int.Bits.{bit_and}
use lib.Lanes.{zip2, top, mask_l}
use mir.{Syntax.Width, Val.{bits, hbits}}
use Rattle.shop_lanes.specs.Eights.{is_between}

-- above the one number and at most the other
abbrev pub between_told : Width → ℕ → ℕ → ℕ → List ℕ → List Bool
between_told w n above upto v =
    map (top (hbits w)) (
    zip2 bit_and
    (zip2 (λ a b. cond (ltb a b) (2 ^ bits w - 1) 0) (replicate n above) v)
    (zip2 (λ a b. cond (leb a b) (2 ^ bits w - 1) 0) v (replicate n upto))
    )

between_told_is : (w : Width) (n above upto : ℕ) (v : List ℕ) → length v ≡ n
    → between_told w n above upto v ≡ map (is_between above upto) v
between_told_is w zero above upto [] e = refl
between_told_is w zero above upto (x ∷ v) e = absurd (omega arith)
between_told_is w (suc n) above upto [] e = absurd (omega arith)
between_told_is w (suc n) above upto (x ∷ v) e = grind (arith, between_told_is w n above upto v (omega arith))

pub bits_between_are : (w : Width) (n above upto : ℕ) (v : List ℕ) → length v ≡ n → n ≤ 64
    → mask_l (between_told w n above upto v) % 2 ^ 64 ≡ mask_l (map (is_between above upto) v)
bits_between_are w n above upto v e le =
    ap (λ ms. mask_l ms % 2 ^ 64) (between_told_is w n above upto v e)
    ∙ mask_l-mod (map (is_between above upto) v) 64 (omega (arith, length-map v (is_between above upto)))
