-- The entries of a word, one after another.
use Rattle.std.proofs.{Common.{◌≡◌, ℕ, ◌+◌, List, ◌++◌, arith, cond, eqb}, lemmas.List.Sums.sum_by-append}
use Rattle.shop_model.specs.{Shop.Shop, Word.{count_of, IsWord}}
pub use Rattle.shop_model.proofs.WordLemmas.{IsWord-snoc}

pub count_of-append : (j : ℕ) (v u : List ℕ) → count_of j (v ++ u) ≡ count_of j v + count_of j u
count_of-append j v u = sum_by-append (λ x. cond (eqb x j) 1 0) v u

-- a beginning of a word is one
pub IsWord-front : (shop : Shop) (v u : List ℕ) → IsWord shop (v ++ u) → IsWord shop v
IsWord-front shop v u h j = let a = h j in let b = count_of-append j v u in omega arith
