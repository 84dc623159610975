-- The greatest numbers before and behind each of eight, by three turns and by position.
use Rattle.std.proofs.Common.{◌≡◌, ℕ, zero, suc, ◌<◌, max, List, [], ◌∷◌, length, take, drop, get_or, refl, ap, ◌∙◌}
use Rattle.std.proofs.Common.{arith}
use lib.Lanes.{zip2}
use Rattle.shop_lanes.specs.{Eights.moved, declared.blocks.Move.Move, Folds.{greatest, greatest_before, maxima_behind}}
use Rattle.shop_lanes.specs.declared.blocks.Move.TheVariants.{UpOne, UpTwo, UpFour, DownOne, DownTwo, DownFour}
use Rattle.shop_lanes.proofs.Eights.{on_eight, same_eight}

pub greatest_before-get : (most : ℕ) (xs : List ℕ) (k : ℕ) → k < length xs
    → get_or (greatest_before most xs) k 0 ≡ max most (greatest (take k xs))
greatest_before-get most [] k lt = absurd (omega arith)
greatest_before-get most (x ∷ xs) zero lt = omega arith
greatest_before-get most (x ∷ xs) (suc k) lt = grind (arith, greatest_before-get (max most x) xs k (omega arith))

pub maxima_behind-get : (most : ℕ) (xs : List ℕ) (k : ℕ) → k < length xs
    → get_or (maxima_behind most xs) k 0 ≡ max most (greatest (drop (suc k) xs))
maxima_behind-get most [] k lt = absurd (omega arith)
maxima_behind-get most (x ∷ xs) zero lt = refl
maxima_behind-get most (x ∷ xs) (suc k) lt = maxima_behind-get most xs k (omega arith)

-- the turns that give them
abbrev pub turned : Move → List ℕ → List ℕ
turned how v = zip2 max v (moved how v)

pair : (p a b : ℕ) → max (max b a) p ≡ max (max p a) b
pair p a b = omega arith

four : (p a b c d : ℕ) → max (max (max d c) (max b a)) p ≡ max (max (max (max p a) b) c) d
four p a b c d = grind (arith, pair)

pub before_turned : (v : List ℕ) → length v ≡ 8
    → turned UpFour (turned UpTwo (turned UpOne (moved UpOne v))) ≡ greatest_before 0 v
before_turned = on_eight (λ v. turned UpFour (turned UpTwo (turned UpOne (moved UpOne v))) ≡ greatest_before 0 v)
    (λ a b c d e f g h. same_eight
    refl
    (omega arith)
    (omega arith)
    (omega arith)
    (four 0 a b c d)
    (four (max (max a 0) 0) b c d e
    ∙ ap (λ p. max (max (max (max p b) c) d) e) (one a))
    (four (max (max b a) 0) c d e f
    ∙ ap (λ p. max (max (max (max p c) d) e) f) (pair 0 a b))
    (four (max (max c b) (max a 0)) d e f g
    ∙ ap (λ p. max (max (max (max p d) e) f) g) (three a b c)))
  where
    one : (a : ℕ) → max (max a 0) 0 ≡ max 0 a
    one a = omega arith

    three : (a b c : ℕ) → max (max c b) (max a 0) ≡ max (max (max 0 a) b) c
    three a b c = omega arith

pub behind_turned : (v : List ℕ) → length v ≡ 8
    → turned DownFour (turned DownTwo (turned DownOne (moved DownOne v))) ≡ maxima_behind 0 v
behind_turned = on_eight (λ v. turned DownFour (turned DownTwo (turned DownOne (moved DownOne v))) ≡ maxima_behind 0 v)
    (λ a b c d e f g h. same_eight
    (fours b c d e (max (max f g) (max h 0)) ∙ ap (λ p. max 0 (max b (max c (max d (max e p))))) (three f g h))
    (fours c d e f (max (max g h) 0) ∙ ap (λ p. max 0 (max c (max d (max e (max f p))))) (two g h))
    (fours d e f g (max (max h 0) 0) ∙ ap (λ p. max 0 (max d (max e (max f (max g p))))) (one h))
    (fours e f g h 0)
    (omega arith)
    (omega arith)
    (omega arith)
    refl)
  where
    one : (a : ℕ) → max (max a 0) 0 ≡ max a 0
    one a = omega arith

    two : (a b : ℕ) → max (max a b) 0 ≡ max a (max b 0)
    two a b = omega arith

    three : (a b c : ℕ) → max (max a b) (max c 0) ≡ max a (max b (max c 0))
    three a b c = omega arith

    assoc : (a b c : ℕ) → max (max a b) c ≡ max a (max b c)
    assoc a b c = omega arith

    bare : (a : ℕ) → a ≡ max 0 a
    bare a = omega arith

    fours : (a b c d p : ℕ) → max (max (max a b) (max c d)) p ≡ max 0 (max a (max b (max c (max d p))))
    fours a b c d p =
        assoc (max a b) (max c d) p ∙ (assoc a b (max (max c d) p) ∙ ap (λ q. max a (max b q)) (assoc c d p)) ∙ bare _

-- the turns one by one
pub turns_are : (one two four : Move) (v ones beside pairs beside' fours beside'' all : List ℕ)
    → ones ≡ moved one v → beside ≡ moved one ones → pairs ≡ zip2 max ones beside → beside' ≡ moved two pairs
    → fours ≡ zip2 max pairs beside' → beside'' ≡ moved four fours → all ≡ zip2 max fours beside''
    → all ≡ turned four (turned two (turned one (moved one v)))
turns_are one two four v ones beside pairs beside' fours beside'' all eo em ep em' ef em'' ea = grind arith
