-- What holds of each element of a mapped list, of joined lists, and of a range.
use Rattle.std.proofs.Common.{map, ℕ, zero, suc, ◌+◌, ◌≤◌, ◌<◌, List, [], ◌∷◌, arith}
use Rattle.std.specs.List.{AllByRecursion, flat_map, range_with_len}
use Rattle.shop_bound.proofs.Lists.{all_map, all_append}

pub all_mapped : {A B : Type 0} (P : B → Type 0) (g : A → B) (xs : List A) → AllByRecursion (λ x. P (g x)) xs
    → AllByRecursion P (map g xs)
all_mapped P g [] h = tt
all_mapped P g (x ∷ xs) h = (h.0, all_mapped P g xs h.1)

pub all_flat : {A : Type 0} (P : A → Type 0) (f : ℕ → List A) (js : List ℕ)
    → AllByRecursion (λ j. AllByRecursion P (f j)) js
    → AllByRecursion P (flat_map f js)
all_flat P f [] h = tt
all_flat P f (j ∷ js) h = all_append P (f j) (flat_map f js) h.0 (all_flat P f js h.1)

pub range_within : (a n : ℕ) → AllByRecursion (λ k. (a ≤ k) × (k < a + n)) (range_with_len a n)
range_within a zero = tt
range_within a (suc n) = grind (arith, all_map, range_within (a + 1) n)
