-- What comparisons of vectors choose, as lists.
use Rattle.std.proofs.Common.{◌≡◌, ℕ, ◌+◌, ◌-◌, ◌%◌, ◌^◌, ◌<◌, min, max, Bool, cond, List, [], ◌∷◌, length, map, get_or}
use Rattle.std.proofs.Common.{refl, ap, sym, ◌∙◌, arith, leb, ltb, ◌≤◌, replicate}
use Rattle.std.proofs.{Math.Nat.{add-mod_right, mod-eq_of_lt}, lemmas.Bool.cases_lt, lemmas.Bool.Decides.nat_tests}
use Rattle.std.proofs.lemmas.Simd.{tops_compared, zip2_splat, zip2_splat_left}
use lib.Lanes.{zip2, sel_l, top, Each1, Each2}
use mir.{Syntax.Width, Val.{bits, hbits}}
use Rattle.shop_lanes.specs.Eights.{ahead_of, waiting, lessened}

-- which heads are at least `least`, as a comparison of two vectors tells it
abbrev pub waits_told : Width → List ℕ → List ℕ → List Bool
waits_told w least heads = map (top (hbits w)) (zip2 (λ a b. cond (leb a b) (2 ^ bits w - 1) 0) least heads)

pub waits_told_is : (w : Width) (n least : ℕ) (heads : List ℕ) → length heads ≡ n
    → waits_told w (replicate n least) heads ≡ map (leb least) heads
waits_told_is w n least heads e = tops_compared w leb (replicate n least) heads ∙ zip2_splat_left leb least n heads e

pub waiting_told_is : (w : Width) (xs heads least : List ℕ) → length heads ≡ 8 → least ≡ replicate 8 (get_or least 0 0)
    → sel_l (waits_told w least heads) xs (replicate 8 0) ≡ waiting (get_or least 0 0) heads xs
waiting_told_is w xs heads least eight splat =
    let from = get_or least 0 0
    in ap (λ l. sel_l (waits_told w l heads) xs (replicate 8 0)) splat
    ∙ ap (λ ms. sel_l ms xs (replicate 8 0)) (waits_told_is w 8 from heads eight)
    ∙ ap (λ n. sel_l (map (leb from) heads) xs (replicate n 0)) (sym eight)

-- how far numbers lie ahead of another, as a difference tells it that wraps
ahead-wraps : (n from x : ℕ) → from < n → x < n → (x + (n - from)) % n ≡ ahead_of (n - 1) from x
ahead-wraps n from x less small = grind (arith, cases_lt, mod-eq_of_lt, nat_tests, add-mod_right)

ahead-map : (n from : ℕ) (xs : List ℕ) → from < n → Each1 (λ x. x < n) xs
    → map (λ x. (x + (n - from)) % n) xs ≡ map (ahead_of (n - 1) from) xs
ahead-map n from [] less small = refl
ahead-map n from (x ∷ xs) less small = grind (arith, ahead-wraps, ahead-map n from xs less small.1)

pub ahead_told_is : (n : ℕ) (xs from : List ℕ) → length xs ≡ 8 → from ≡ replicate 8 (get_or from 0 0)
    → get_or from 0 0 < n → Each1 (λ x. x < n) xs
    → zip2 (λ a b. (a + (n - b)) % n) xs from ≡ map (ahead_of (n - 1) (get_or from 0 0)) xs
ahead_told_is n xs from eight splat less small =
    ap (zip2 (λ a b. (a + (n - b)) % n) xs) splat
    ∙ zip2_splat (λ a b. (a + (n - b)) % n) xs 8 (get_or from 0 0) eight
    ∙ ahead-map n (get_or from 0 0) xs less small

-- the greater of two vectors, as a comparison tells it
pub greater_told_is : (w : Width) (xs ys : List ℕ) → length xs ≡ length ys
    → sel_l (map (top (hbits w)) (zip2 (λ a b. cond (ltb a b) (2 ^ bits w - 1) 0) xs ys)) ys xs ≡ zip2 max xs ys
greater_told_is w xs ys e = ap (λ ms. sel_l ms ys xs) (tops_compared w ltb xs ys) ∙ chosen xs ys e
  where
    chosen : (us vs : List ℕ) → length us ≡ length vs → sel_l (zip2 ltb us vs) vs us ≡ zip2 max us vs
    chosen [] vs h = refl
    chosen (x ∷ us) [] h = absurd (omega arith)
    chosen (x ∷ us) (y ∷ vs) h = grind (arith, nat_tests, sel_l, zip2, chosen us vs)

-- the lesser of two vectors, as a comparison tells it
pub lesser_told_is : (w : Width) (xs ys : List ℕ) → length xs ≡ length ys
    → sel_l (map (top (hbits w)) (zip2 (λ a b. cond (ltb a b) (2 ^ bits w - 1) 0) xs ys)) xs ys ≡ zip2 min xs ys
lesser_told_is w xs ys e = ap (λ ms. sel_l ms xs ys) (tops_compared w ltb xs ys) ∙ chosen xs ys e
  where
    chosen : (us vs : List ℕ) → length us ≡ length vs → sel_l (zip2 ltb us vs) us vs ≡ zip2 min us vs
    chosen [] vs h = refl
    chosen (x ∷ us) [] h = absurd (omega arith)
    chosen (x ∷ us) (y ∷ vs) h = grind (arith, nat_tests, sel_l, zip2, chosen us vs)

-- what is taken away from the greater of two vectors, and what is left
abbrev pub greater_told : Width → List ℕ → List ℕ → List ℕ
greater_told w xs ys = sel_l (map (top (hbits w)) (zip2 (λ a b. cond (ltb a b) (2 ^ bits w - 1) 0) xs ys)) ys xs

covered : (xs ys : List ℕ) → Each2 (λ a b. b ≤ a) (zip2 max xs ys) ys
covered [] ys = tt
covered (x ∷ xs) [] = tt
covered (x ∷ xs) (y ∷ ys) = (omega arith, covered xs ys)

left_of : (xs ys : List ℕ) → zip2 (λ a b. a - b) (zip2 max xs ys) ys ≡ lessened xs ys
left_of [] ys = refl
left_of (x ∷ xs) [] = refl
left_of (x ∷ xs) (y ∷ ys) = grind (arith, left_of xs ys)

pub greater_covers : (w : Width) (xs ys : List ℕ) → length xs ≡ length ys
    → Each2 (λ a b. b ≤ a) (greater_told w xs ys) ys
greater_covers w xs ys e = grind (arith, greater_told_is, covered)

pub lessened_told_is : (w : Width) (xs ys : List ℕ) → length xs ≡ length ys
    → zip2 (λ a b. a - b) (greater_told w xs ys) ys ≡ lessened xs ys
lessened_told_is w xs ys e = ap (λ l. zip2 (λ a b. a - b) l ys) (greater_told_is w xs ys e) ∙ left_of xs ys
