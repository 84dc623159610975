-- Lists that are filled from their front.
use Rattle.std.proofs.{Common.{◌≡◌, ℕ, ◌+◌, List, [], ◌∷◌, ◌++◌, map, arith}, lemmas.List.map-append}
use Rattle.std.proofs.lemmas.List.FromFn.{map-range_with_len_more}
use Rattle.std.specs.{Prelude.Vec, List.range_with_len, declared.alloc.Global.Global}

pub filled_more : {B : Type 0} (f : ℕ → B) (xs ys : List B) (k : ℕ) (y : B) → xs ≡ map f (range_with_len 0 k) → y ≡ f k
    → ys ≡ xs ++ y ∷ [] → ys ≡ map f (range_with_len 0 (k + 1))
filled_more f xs ys k y filled here pushed = let a = map-range_with_len_more f 0 k k (omega arith) in cc

-- the same of rows
pub rows_more : {B : Type 0} (f : ℕ → List B) (xs ys : List (Vec B Global)) (k : ℕ) (y : Vec B Global)
    → map (λ row. row.items) xs ≡ map f (range_with_len 0 k) → y.items ≡ f k → ys ≡ xs ++ y ∷ []
    → map (λ row. row.items) ys ≡ map f (range_with_len 0 (k + 1))
rows_more f xs ys k y filled here pushed = grind (arith, filled_more, map-append)
