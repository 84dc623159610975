-- The load of some lanes is their span from 0 on, and their work the clock afterwards: how both are put together.
use Rattle.std.proofs.Common.{◌≡◌, ℕ, ◌+◌, ◌≤◌, max, cond, leb, List, [], ◌∷◌, ◌++◌, refl, ap, ◌∙◌, arith, sum_by}
use Rattle.std.proofs.lemmas.List.Sums.{sum_by-cons}
use Rattle.shop_lanes.specs.{Rows.Lane, Spans.{span, greatest_by}, inner.Passes.clock_after}
use Rattle.shop_lanes.proofs.SpanParts.{span-append}

-- all ends are later by the start; with no lane there is but the start
pub span-later : (least s k : ℕ) (xs : List Lane) → max s (span least (s + k) xs) ≡ s + span least k xs
span-later least s k [] = omega arith
span-later least s k (x ∷ xs) = grind (arith, span-later least s (k + x.time) xs, span-later least s k xs)

pub span_from_start : (least s : ℕ) (xs : List Lane) → max s (span least s xs) ≡ s + span least 0 xs
span_from_start least s xs = grind (arith, span-later least s 0 xs)

pub clock-later : (least s : ℕ) (xs : List Lane) → clock_after least s xs ≡ s + clock_after least 0 xs
clock-later least s [] = omega arith
clock-later least s (x ∷ xs) =
    grind (arith, clock-later least (s + x.time) xs, clock-later least (0 + x.time) xs, clock-later least s xs)

pub clock_after-append : (least s : ℕ) (xs ys : List Lane)
    → clock_after least s (xs ++ ys) ≡ clock_after least (clock_after least s xs) ys
clock_after-append least s [] ys = refl
clock_after-append least s (x ∷ xs) ys =
    grind (arith, clock_after-append least (s + x.time) xs ys, clock_after-append least s xs ys)

pub work-append : (least : ℕ) (xs ys : List Lane)
    → clock_after least 0 (xs ++ ys) ≡ clock_after least 0 xs + clock_after least 0 ys
work-append least xs ys = clock_after-append least 0 xs ys ∙ clock-later least (clock_after least 0 xs) ys

-- the last of them ends no earlier than the clock stands
pub clock_le_span : (least s : ℕ) (xs : List Lane) → clock_after least s xs ≤ max s (span least s xs)
clock_le_span least s [] = omega arith
clock_le_span least s (x ∷ xs) = grind (arith, clock_le_span least (s + x.time) xs, clock_le_span least s xs)

pub work_le_load : (least : ℕ) (xs : List Lane) → clock_after least 0 xs ≤ span least 0 xs
work_le_load least xs = let a = clock_le_span least 0 xs in omega (arith, a)

pub load-append : (least : ℕ) (xs ys : List Lane)
    → span least 0 (xs ++ ys) ≡ max (span least 0 xs) (clock_after least 0 xs + span least 0 ys)
load-append least xs ys =
    grind (arith, span-append least 0 xs ys, span_from_start least (clock_after least 0 xs) ys, work_le_load least xs)

-- one lane more
pub work-one : (least : ℕ) (x : Lane) → clock_after least 0 (x ∷ []) ≡ cond (leb least x.head) x.time 0
work-one least x = grind arith

pub work_more : (least : ℕ) (xs : List Lane) (x : Lane)
    → clock_after least 0 (xs ++ (x ∷ [])) ≡ clock_after least 0 xs + cond (leb least x.head) x.time 0
work_more least xs x = work-append least xs (x ∷ []) ∙ ap (λ m. clock_after least 0 xs + m) (work-one least x)

pub load_more : (least : ℕ) (xs : List Lane) (x : Lane)
    → span least 0 (xs ++ (x ∷ []))
    ≡ max (span least 0 xs)
    (cond (leb least x.head) (clock_after least 0 xs + cond (leb least x.head) x.time 0 + x.tail) 0)
load_more least xs x = grind (arith, load-append, work_le_load)

-- neither is above what all lanes together come to
pub work_le : (least : ℕ) (xs : List Lane) → clock_after least 0 xs ≤ sum_by (λ x. x.time) xs
work_le least [] = omega arith
work_le least (x ∷ xs) =
    grind (arith, sum_by-cons (λ y. y.time) x xs, clock-later least (0 + x.time) xs, work_le least xs)

pub load_le : (least : ℕ) (xs : List Lane)
    → span least 0 xs ≤ clock_after least 0 xs + greatest_by (λ x. x.tail) xs
load_le least [] = omega arith
load_le least (x ∷ xs) =
    grind (arith, clock-later least (0 + x.time) xs, span_from_start least (0 + x.time) xs, load_le least xs)
