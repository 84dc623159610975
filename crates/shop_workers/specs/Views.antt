-- What is known on a board, in plain words: numbers of pieces.
--     has xs n            n stands in xs
--     once xs             no number stands twice in xs
--     HasHandled v        each piece that ends at the opening bound and that the seat won was
--                         marked by it, or has a number above the least that it read or marked
--     ArePieces hits xs   the numbers in xs are those of pieces
--     HasAll v            the seat won each piece
--     HasAsMany v         the seat won as many pieces as there are
use Rattle.std.specs.{Prelude.{◌≡◌, ℕ, ◌<◌, List, [], ◌∷◌, length, Bool, true, ◌&&◌, not, ◌==◌, ◌⊎◌}, List.list_any}
use Rattle.shop_runs.specs.Hits.{is_hit_in}
use Rattle.shop_workers.specs.declared.views.View.{View}

abbrev pub has : List ℕ → ℕ → Bool
has xs n = list_any (λ x. n == x) xs

abbrev pub once : List ℕ → Bool
once [] = true
once (x ∷ xs) = not (has xs x) && once xs

abbrev pub HasHandled : View → Type 0
HasHandled v = (n : ℕ) → has v.mine n ≡ true → is_hit_in v.hits n ≡ true → (has v.done n ≡ true) ⊎ (v.low < n)

abbrev pub ArePieces : List Bool → List ℕ → Type 0
ArePieces hits xs = (n : ℕ) → has xs n ≡ true → n < length hits

abbrev pub HasAll : View → Type 0
HasAll v = (n : ℕ) → n < length v.hits → has v.mine n ≡ true

abbrev pub HasAsMany : View → Type 0
HasAsMany v = length v.mine ≡ length v.hits
