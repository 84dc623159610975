-- The lanes of parts of rows are parts of the lanes.
use Rattle.std.proofs.Common.{◌≡◌, ℕ, zero, suc, ◌+◌, ◌-◌, ◌*◌, ◌<◌, ◌≤◌, List, [], ◌∷◌, length, take, drop, get_or}
use Rattle.std.proofs.Common.{refl, arith, length-take, length-drop}
use Rattle.shop_lanes.specs.Rows.{Lane, lanes, blocks}

pub lanes-drop : (n : ℕ) (hs ts qs : List ℕ) → length ts ≡ length hs → length qs ≡ length hs
    → drop n (lanes hs ts qs) ≡ lanes (drop n hs) (drop n ts) (drop n qs)
lanes-drop zero hs ts qs a b = refl
lanes-drop (suc n) [] [] [] a b = refl
lanes-drop (suc n) [] (t ∷ ts) qs a b = absurd (omega arith)
lanes-drop (suc n) [] [] (q ∷ qs) a b = absurd (omega arith)
lanes-drop (suc n) (h ∷ hs) [] qs a b = absurd (omega arith)
lanes-drop (suc n) (h ∷ hs) (t ∷ ts) [] a b = absurd (omega arith)
lanes-drop (suc n) (h ∷ hs) (t ∷ ts) (q ∷ qs) a b = lanes-drop n hs ts qs (omega arith) (omega arith)

pub lanes-take : (n : ℕ) (hs ts qs : List ℕ) → length ts ≡ length hs → length qs ≡ length hs
    → take n (lanes hs ts qs) ≡ lanes (take n hs) (take n ts) (take n qs)
lanes-take zero hs ts qs a b = refl
lanes-take (suc n) [] [] [] a b = refl
lanes-take (suc n) [] (t ∷ ts) qs a b = absurd (omega arith)
lanes-take (suc n) [] [] (q ∷ qs) a b = absurd (omega arith)
lanes-take (suc n) (h ∷ hs) [] qs a b = absurd (omega arith)
lanes-take (suc n) (h ∷ hs) (t ∷ ts) [] a b = absurd (omega arith)
lanes-take (suc n) (h ∷ hs) (t ∷ ts) (q ∷ qs) a b = grind (arith, lanes-take n hs ts qs (omega arith) (omega arith))

pub length-lanes : (hs ts qs : List ℕ) → length ts ≡ length hs → length qs ≡ length hs
    → length (lanes hs ts qs) ≡ length hs
length-lanes [] ts qs a b = refl
length-lanes (h ∷ hs) [] qs a b = absurd (omega arith)
length-lanes (h ∷ hs) (t ∷ ts) [] a b = absurd (omega arith)
length-lanes (h ∷ hs) (t ∷ ts) (q ∷ qs) a b = grind (arith, length-lanes hs ts qs (omega arith) (omega arith))

-- what stands at position i
abbrev pub lane_at : List ℕ → List ℕ → List ℕ → ℕ → Lane
lane_at hs ts qs i = record { head = get_or hs i 0; time = get_or ts i 0; tail = get_or qs i 0 }

pub get_or-lanes : (hs ts qs : List ℕ) (i : ℕ) (d : Lane) → length ts ≡ length hs → length qs ≡ length hs
    → i < length hs → get_or (lanes hs ts qs) i d ≡ lane_at hs ts qs i
get_or-lanes [] ts qs i d a b lt = absurd (omega arith)
get_or-lanes (h ∷ hs) [] qs i d a b lt = absurd (omega arith)
get_or-lanes (h ∷ hs) (t ∷ ts) [] i d a b lt = absurd (omega arith)
get_or-lanes (h ∷ hs) (t ∷ ts) (q ∷ qs) zero d a b lt = refl
get_or-lanes (h ∷ hs) (t ∷ ts) (q ∷ qs) (suc i) d a b lt = grind (arith, get_or-lanes hs ts qs i d)

pub lanes_more : (hs ts qs : List ℕ) (i : ℕ) → length ts ≡ length hs → length qs ≡ length hs → i < length hs
    → drop i (lanes hs ts qs) ≡ lane_at hs ts qs i ∷ drop (i + 1) (lanes hs ts qs)
lanes_more [] ts qs i a b lt = absurd (omega arith)
lanes_more (h ∷ hs) [] qs i a b lt = absurd (omega arith)
lanes_more (h ∷ hs) (t ∷ ts) [] i a b lt = absurd (omega arith)
lanes_more (h ∷ hs) (t ∷ ts) (q ∷ qs) zero a b lt = refl
lanes_more (h ∷ hs) (t ∷ ts) (q ∷ qs) (suc i) a b lt = grind (arith, lanes_more hs ts qs i)

-- the lanes of the same blocks of each row
pub lanes-blocks : (hs ts qs : List ℕ) (from to : ℕ) → length ts ≡ length hs → length qs ≡ length hs
    → lanes (blocks from to hs) (blocks from to ts) (blocks from to qs) ≡ blocks from to (lanes hs ts qs)
lanes-blocks hs ts qs from to a b = grind (arith, length-drop, lanes-drop, lanes-take)

pub length-blocks : {A : Type 0} (from to : ℕ) (xs : List A) → 8 * to ≤ length xs
    → length (blocks from to xs) ≡ 8 * to - 8 * from
length-blocks from to xs le = simp (length-take, length-drop) (omega arith)
