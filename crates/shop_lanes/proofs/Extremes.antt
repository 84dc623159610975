-- The greatest and the least of lists and of vectors.
use Rattle.std.proofs.Common.{◌≡◌, ℕ, ◌≤◌, min, max, List, [], ◌∷◌, ◌++◌, length, get_or, refl, sym, ◌∙◌, arith}
use lib.Lanes.{zip2, top}
use Rattle.shop_lanes.specs.{Eights.moved, declared.blocks.Move.TheVariants.{Halves, Quarters, Neighbours}}
use Rattle.shop_lanes.{specs.Folds.{greatest, least_up_to}, proofs.Eights.on_eight}

pub greatest-append : (xs ys : List ℕ) → greatest (xs ++ ys) ≡ max (greatest xs) (greatest ys)
greatest-append [] ys = omega arith
greatest-append (x ∷ xs) ys = let rest = greatest-append xs ys in omega (arith, rest)

pub greatest-greater : (xs ys : List ℕ) → length xs ≡ length ys
    → greatest (zip2 max xs ys) ≡ max (greatest xs) (greatest ys)
greatest-greater [] [] e = refl
greatest-greater [] (y ∷ ys) e = absurd (omega arith)
greatest-greater (x ∷ xs) [] e = absurd (omega arith)
greatest-greater (x ∷ xs) (y ∷ ys) e = grind (arith, greatest-greater xs ys (omega arith))

pub least_le_top : (top : ℕ) (xs : List ℕ) → least_up_to top xs ≤ top
least_le_top top [] = omega arith
least_le_top top (x ∷ xs) = let rest = least_le_top top xs in omega (arith, rest)

pub least-append : (top : ℕ) (xs ys : List ℕ) → least_up_to top (xs ++ ys)
    ≡ min (least_up_to top xs) (least_up_to top ys)
least-append top [] ys = let a = least_le_top top ys in omega arith
least-append top (x ∷ xs) ys = let rest = least-append top xs ys in omega (arith, rest)

pub least-lesser : (top : ℕ) (xs ys : List ℕ) → length xs ≡ length ys
    → least_up_to top (zip2 min xs ys) ≡ min (least_up_to top xs) (least_up_to top ys)
least-lesser top [] [] e = omega arith
least-lesser top [] (y ∷ ys) e = absurd (omega arith)
least-lesser top (x ∷ xs) [] e = absurd (omega arith)
least-lesser top (x ∷ xs) (y ∷ ys) e = grind (arith, least-lesser top xs ys (omega arith))

abbrev pub folded : (ℕ → ℕ → ℕ) → List ℕ → ℕ
folded f v =
    let fours = zip2 f v (moved Halves v)
    in let pairs = zip2 f fours (moved Quarters fours)
    in get_or (zip2 f pairs (moved Neighbours pairs)) 0 0

pub folded-max : (v : List ℕ) → length v ≡ 8 → folded max v ≡ greatest v
folded-max = on_eight (λ v. folded max v ≡ greatest v) (λ a b c d e f g h.
    sym (
    greatest-append (a ∷ b ∷ c ∷ d ∷ []) (e ∷ f ∷ g ∷ h ∷ [])
    ∙ sym (greatest-greater (a ∷ b ∷ c ∷ d ∷ []) (e ∷ f ∷ g ∷ h ∷ []) refl)
    ∙ greatest-append (max a e ∷ max b f ∷ []) (max c g ∷ max d h ∷ [])
    ∙ sym (greatest-greater (max a e ∷ max b f ∷ []) (max c g ∷ max d h ∷ []) refl)
    ∙ two (max (max a e) (max c g)) (max (max b f) (max d h))
    ))
  where
    two : (p q : ℕ) → max p (max q 0) ≡ max p q
    two p q = omega arith

pub folded-min : (top : ℕ) (v : List ℕ) → length v ≡ 8 → folded min v ≤ top → folded min v ≡ least_up_to top v
folded-min top = on_eight (λ v. folded min v ≤ top → folded min v ≡ least_up_to top v) (λ a b c d e f g h small.
    sym (
    least-append top (a ∷ b ∷ c ∷ d ∷ []) (e ∷ f ∷ g ∷ h ∷ [])
    ∙ sym (least-lesser top (a ∷ b ∷ c ∷ d ∷ []) (e ∷ f ∷ g ∷ h ∷ []) refl)
    ∙ least-append top (min a e ∷ min b f ∷ []) (min c g ∷ min d h ∷ [])
    ∙ sym (least-lesser top (min a e ∷ min b f ∷ []) (min c g ∷ min d h ∷ []) refl)
    ∙ two (min (min a e) (min c g)) (min (min b f) (min d h)) small
    ))
  where
    two : (p q : ℕ) → min p q ≤ top → min p (min q top) ≡ min p q
    two p q le = omega arith

pub folded_is : (f : ℕ → ℕ → ℕ) (v fours pairs all : List ℕ) → fours ≡ zip2 f v (moved Halves v)
    → pairs ≡ zip2 f fours (moved Quarters fours) → all ≡ zip2 f pairs (moved Neighbours pairs)
    → get_or all 0 0 ≡ folded f v
folded_is f v fours pairs all a b c = grind arith
