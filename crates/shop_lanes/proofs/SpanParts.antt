-- Lanes served one after the other: some of them, and then others.
use Rattle.std.proofs.Common.{◌≡◌, ℕ, ◌+◌, ◌≤◌, ◌<◌, max, List, [], ◌∷◌, ◌++◌, zero, suc, arith, sum_by, length, get_or}
use Rattle.std.proofs.{Common.{take, drop, take-append-drop, ap}, lemmas.List.Sums.sum_by-append}
use Rattle.shop_lanes.specs.{Rows.Lane, Spans.{span, greatest_by}, inner.Passes.clock_after}

-- serving some lanes and then others
pub span-append : (least start : ℕ) (xs ys : List Lane)
    → span least start (xs ++ ys) ≡ max (span least start xs) (span least (clock_after least start xs) ys)
span-append least start [] ys = omega arith
span-append least start (x ∷ xs) ys =
    grind (arith, span-append least (start + x.time) xs ys, span-append least start xs ys)

pub greatest_by-append : (f : Lane → ℕ) (xs ys : List Lane)
    → greatest_by f (xs ++ ys) ≡ max (greatest_by f xs) (greatest_by f ys)
greatest_by-append f [] ys = omega arith
greatest_by-append f (x ∷ xs) ys = let rest = greatest_by-append f xs ys in omega (arith, rest)

pub each_greatest : (f : Lane → ℕ) (xs : List Lane) (i : ℕ) (d : Lane) → i < length xs
    → f (get_or xs i d) ≤ greatest_by f xs
each_greatest f [] i d lt = absurd (omega arith)
each_greatest f (x ∷ xs) zero d lt = omega arith
each_greatest f (x ∷ xs) (suc i) d lt = let rest = each_greatest f xs i d (omega arith) in omega (arith, rest)

-- of some lanes amid others
pub sum_part : (f : Lane → ℕ) (n r : ℕ) (xs : List Lane) → sum_by f (take n (drop r xs)) ≤ sum_by f xs
sum_part f n r xs =
    let outer = sum_by-append f (take r xs) (drop r xs)
    in let inner = sum_by-append f (take n (drop r xs)) (drop n (drop r xs))
    in let whole = ap (sum_by f) (take-append-drop r xs)
    in let rest = ap (sum_by f) (take-append-drop n (drop r xs))
    in omega (arith, outer, inner, whole, rest)

pub greatest_part : (f : Lane → ℕ) (n r : ℕ) (xs : List Lane)
    → greatest_by f (take n (drop r xs)) ≤ greatest_by f xs
greatest_part f n r xs =
    let outer = greatest_by-append f (take r xs) (drop r xs)
    in let inner = greatest_by-append f (take n (drop r xs)) (drop n (drop r xs))
    in let whole = ap (greatest_by f) (take-append-drop r xs)
    in let rest = ap (greatest_by f) (take-append-drop n (drop r xs))
    in omega (arith, outer, inner, whole, rest)
