-- How many numbers serving a block gives.
use Rattle.std.proofs.Common.{◌≡◌, ℕ, List, [], ◌∷◌, length, arith, refl}
use Rattle.shop_lanes.specs.Eights.{waiting}

pub length-waiting : (least : ℕ) (hs ts : List ℕ) → length ts ≡ length hs
    → length (waiting least hs ts) ≡ length hs
length-waiting least [] [] e = refl
length-waiting least [] (t ∷ ts) e = absurd (omega arith)
length-waiting least (h ∷ hs) [] e = absurd (omega arith)
length-waiting least (h ∷ hs) (t ∷ ts) e = grind (arith, length-waiting least hs ts (omega arith))
