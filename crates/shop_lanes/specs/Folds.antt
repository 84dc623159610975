-- Sums and extremes of numbers in order.
--     sums_before start xs        for each number `start` plus all numbers before it
--     greatest xs                 the greatest number, 0 if there is none
--     greatest_before most xs     for each number the greatest of `most` and the numbers before it
--     maxima_behind most xs       for each number the greatest of `most` and the numbers behind it
--     least_up_to top xs          the least of the numbers and `top`
use Rattle.std.specs.Prelude.{ℕ, ◌+◌, min, max, List, [], ◌∷◌}

abbrev pub sums_before : ℕ → List ℕ → List ℕ
sums_before start [] = []
sums_before start (x ∷ xs) = start ∷ sums_before (start + x) xs

abbrev pub greatest : List ℕ → ℕ
greatest [] = 0
greatest (x ∷ xs) = max x (greatest xs)

abbrev pub greatest_before : ℕ → List ℕ → List ℕ
greatest_before most [] = []
greatest_before most (x ∷ xs) = most ∷ greatest_before (max most x) xs

abbrev pub maxima_behind : ℕ → List ℕ → List ℕ
maxima_behind most [] = []
maxima_behind most (x ∷ xs) = max most (greatest xs) ∷ maxima_behind most xs

abbrev pub least_up_to : ℕ → List ℕ → ℕ
least_up_to top [] = top
least_up_to top (x ∷ xs) = min x (least_up_to top xs)
