-- What blocks add up to, read down their columns.
use Rattle.std.proofs.Common.{◌≡◌, ℕ, zero, suc, ◌+◌, ◌*◌, ◌≤◌, ◌<◌, List, [], ◌∷◌, length, take, get_or, refl, sym}
use Rattle.std.proofs.{Common.{◌∙◌, ap, arith}, lemmas.List.{take_all, take_more}, lemmas.List.Sums.sum_by_push}
use Rattle.std.specs.List.{sum_by}
use Rattle.shop_lanes.specs.Rows.{by_columns, index_at_rank}
use Rattle.shop_lanes.proofs.Columns.{by_columns-at, length-by_columns, index_of_rank}

-- the first n numbers of a row that is told one by one
sum_to : (ℕ → ℕ) → ℕ → ℕ
sum_to g zero = 0
sum_to g (suc n) = sum_to g n + g n

sum_to-same : (g h : ℕ → ℕ) (n : ℕ) → ((i : ℕ) → i < n → g i ≡ h i) → sum_to g n ≡ sum_to h n
unfolding sum_to
sum_to-same g h zero each = refl
sum_to-same g h (suc n) each = grind (arith, sum_to-same g h n (λ i below. each i (omega arith)), each n (omega arith))

sum_to-add : (g : ℕ → ℕ) (a b : ℕ) → sum_to g (a + b) ≡ sum_to g a + sum_to (λ i. g (a + i)) b
unfolding sum_to
sum_to-add g a zero = let e : a + 0 ≡ a = omega arith in ap (sum_to g) e ∙ omega arith
sum_to-add g a (suc b) =
    let e : a + suc b ≡ suc (a + b) = omega arith
    in let rest = sum_to-add g a b in ap (sum_to g) e ∙ omega (arith, rest)

module _ (g : ℕ → ℕ) where
  -- one column of so many blocks
  column : ℕ → ℕ → ℕ
  column k n = sum_to (λ j. g (8 * j + k)) n

  columns : ℕ → ℕ
  columns n = column 0 n + column 1 n + column 2 n + column 3 n + column 4 n + column 5 n + column 6 n + column 7 n

  by_blocks : (n : ℕ) → sum_to g (8 * n) ≡ columns n
  unfolding sum_to column columns
  by_blocks zero = refl
  by_blocks (suc n) = grind (arith, by_blocks n, sum_to-add g (8 * n) 8, sum_to g)

  module _ (count : ℕ) where
    abbrev at_rank : ℕ → ℕ
    at_rank i = g (index_at_rank count i)

    one_column : (k : ℕ) → sum_to at_rank (suc k * count) ≡ sum_to at_rank (k * count) + column k count
    unfolding column
    one_column k =
        let e : suc k * count ≡ k * count + count = grind arith
        in let more = sum_to-add at_rank (k * count) count
        in let same = sum_to-same (λ j. at_rank (k * count + j)) (λ j. g (8 * j + k)) count
        (λ j below. ap g (index_of_rank count k j below))
        in ap (sum_to at_rank) e ∙ omega (arith, more, same)

    by_ranks : sum_to at_rank (8 * count) ≡ sum_to g (8 * count)
    unfolding sum_to columns
    by_ranks = grind (arith, sum_to, one_column, by_blocks)

module _ {A : Type 0} (f : A → ℕ) (d : A) where
  of_first : (xs : List A) (n : ℕ) → n ≤ length xs → sum_by f (take n xs) ≡ sum_to (λ i. f (get_or xs i d)) n
  unfolding sum_to
  of_first xs zero le = refl
  of_first xs (suc n) le =
      let e : suc n ≡ n + 1 = omega arith
      in let more = ap (λ (ys : List A). sum_by f ys) (ap (λ (k : ℕ). take k xs) e ∙ take_more xs n d (omega arith))
      in let last = sum_by_push f (take n xs) (get_or xs n d)
      in let rest = of_first xs n (omega arith) in omega (arith, more, last, rest)

  of_all : (xs : List A) (n : ℕ) → length xs ≡ n → sum_by f xs ≡ sum_to (λ i. f (get_or xs i d)) n
  of_all xs n long = grind (arith, take_all n xs (omega arith), of_first xs n (omega arith))

  sum_same : (count : ℕ) (xs : List A) → length xs ≡ 8 * count → sum_by f (by_columns count xs) ≡ sum_by f xs
  sum_same count xs whole =
      of_all (by_columns count xs) (8 * count) (length-by_columns count xs whole)
      ∙ sum_to-same (λ i. f (get_or (by_columns count xs) i d)) (λ i. f (get_or xs (index_at_rank count i) d))
      (8 * count) (λ i below. ap f (by_columns-at count xs whole i d below))
      ∙ by_ranks (λ p. f (get_or xs p d)) count
      ∙ sym (of_all xs (8 * count) whole)

-- read by columns or not, blocks add up to the same
pub sum_by_columns : {A : Type 0} (f : A → ℕ) (count : ℕ) (xs : List A) → length xs ≡ 8 * count
    → sum_by f (by_columns count xs) ≡ sum_by f xs
sum_by_columns f count [] whole = grind arith
sum_by_columns f count (x ∷ xs) whole = sum_same f x count (x ∷ xs) whole
