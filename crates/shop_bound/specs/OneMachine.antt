-- The one-machine bound (Carlier 1982).
use Rattle.std.specs.Prelude.{ℕ, ◌+◌, ◌^◌, ◌<◌, min, max, List, [], ◌∷◌, ◌++◌, map, sum_by}
use Rattle.shop_bound.specs.declared.triples.Triple.{Triple}

-- the lists that are left when some elements are struck out
abbrev pub sublists : {A : Type 0} → List A → List (List A)
sublists [] = [] ∷ []
sublists (x ∷ xs) = sublists xs ++ map (λ ys. x ∷ ys) (sublists xs)

-- the least and the greatest of f over the list, and 0 for the empty list
abbrev pub least_of : {A : Type 0} → (A → ℕ) → List A → ℕ
least_of f [] = 0
least_of f (x ∷ []) = f x
least_of f (x ∷ y ∷ ys) = min (f x) (least_of f (y ∷ ys))

abbrev pub greatest_of : {A : Type 0} → (A → ℕ) → List A → ℕ
greatest_of f [] = 0
greatest_of f (x ∷ xs) = max (f x) (greatest_of f xs)

-- One machine can't do these operations in less: it waits for the least head, does them all, and
-- the least tail follows. (0 for no operations)
abbrev pub span_of : List Triple → ℕ
span_of ts = least_of (λ t. t.head) ts + sum_by (λ t. t.time) ts + least_of (λ t. t.tail) ts

-- the greatest span of a sublist
abbrev pub one : List Triple → ℕ
one ts = greatest_of span_of (sublists ts)

-- the greatest head, all times and the greatest tail together, which no span exceeds
abbrev pub extent : List Triple → ℕ
extent ts = greatest_of (λ t. t.head) ts + sum_by (λ t. t.time) ts + greatest_of (λ t. t.tail) ts

-- spans that can be computed
abbrev pub IsSmall : List Triple → Type 0
IsSmall ts = extent ts < 2 ^ 50
