-- Blocks read down their columns: which rank stands where.
use Rattle.std.proofs.Common.{◌≡◌, ℕ, zero, suc, ◌+◌, ◌*◌, ◌/◌, ◌%◌, ◌<◌, ◌≤◌, List, length, take, drop, set, get_or}
use Rattle.std.proofs.{Common.{refl, ap, sym, ◌∙◌, arith, subst, inl, inr, length-set}, Math.Nat.mod-lt}
use Rattle.std.proofs.{Math.Nat.{div-lt_iff_lt-mul, div-add-mod, suc-mul, mul-le-mul_right}, lemmas.Nat.div-mul-add}
use Rattle.std.proofs.lemmas.{Nat.mod-mul-add, Bool.cases_lt, List.{same_lists, get_or-take, get_or-drop}}
use Rattle.std.proofs.lemmas.List.{length-append, get_or_append_left, get_or-append_right, length-take, length-drop}
use Rattle.std.{proofs.lemmas.List.{get_or-set_same, get_or-set_other}, specs.List.All}
use Rattle.shop_lanes.specs.{Rows.{lanes, index_at_rank, first_ranks, by_columns}, inner.OwnSpans.rank_of}
use Rattle.shop_lanes.proofs.LaneLists.{length-lanes, get_or-lanes}

pub rank_parts : (count i : ℕ) → i < 8 * count → (i % count < count) × (i / count < 8)
rank_parts count i lt = grind (arith, mod-lt, div-lt_iff_lt-mul)

pub index_fits : (count i : ℕ) → i < 8 * count → index_at_rank count i < 8 * count
index_fits count i lt = let parts = rank_parts count i lt in omega (arith, parts.0, parts.1)

-- the index j blocks down column k
pub index_of_rank : (count k j : ℕ) → j < count → index_at_rank count (k * count + j) ≡ 8 * j + k
index_of_rank count k j lt = grind (arith, mod-mul-add, div-mul-add)

pub rank_below : (count k j : ℕ) → k < 8 → j < count → k * count + j < 8 * count
rank_below count k j k_lt j_lt = grind (arith, mul-le-mul_right, suc-mul)

pub rank_fits : (count p : ℕ) → p < 8 * count → rank_of count p < 8 * count
rank_fits count p lt = rank_below count (p % 8) (p / 8) (omega arith) (omega arith)

pub index_of_rank_of : (count p : ℕ) → p < 8 * count → index_at_rank count (rank_of count p) ≡ p
index_of_rank_of count p lt = index_of_rank count (p % 8) (p / 8) (omega arith) ∙ omega arith

pub rank_of_index : (count i : ℕ) → i < 8 * count → rank_of count (index_at_rank count i) ≡ i
rank_of_index count i lt = grind (arith, rank_parts, div-add-mod)

pub rank_of_parts : (count k j : ℕ) → k < 8 → rank_of count (8 * j + k) ≡ k * count + j
rank_of_parts count k j lt = grind arith

module _ {A : Type 0} where
  one_long : (p : ℕ) (xs : List A) → p < length xs → length (take 1 (drop p xs)) ≡ 1
  one_long p xs lt = omega (arith, length-take 1 (drop p xs), length-drop p xs)

  module _ (count : ℕ) (xs : List A) (whole : length xs ≡ 8 * count) where
    length-ranks : (n : ℕ) → n ≤ 8 * count → length (first_ranks count xs n) ≡ n
    length-ranks zero le = refl
    length-ranks (suc n) le = grind (arith, index_fits, length-append, one_long, whole, length-ranks n (omega arith))

    ranks-at : (n : ℕ) → n ≤ 8 * count → (i : ℕ) (d : A) → i < n
        → get_or (first_ranks count xs n) i d ≡ get_or xs (index_at_rank count i) d
    ranks-at zero le i d lt = absurd (omega arith)
    ranks-at (suc n) le i d lt =
        let front = first_ranks count xs n
        in let last = take 1 (drop (index_at_rank count n) xs)
        in let long = length-ranks n (omega arith)
        in elim (cases_lt i n) [
          | inl before ↦ grind (arith, get_or_append_left, ranks-at n (omega arith) i d before)
          | inr from ↦
              let here : i ≡ n = omega (arith, from)
              in get_or-append_right front last n i d long from
              ∙ ap (λ k. get_or last k d) (omega (arith, here))
              ∙ get_or-take 1 (drop (index_at_rank count n) xs) 0 d (omega arith)
              ∙ get_or-drop (index_at_rank count n) xs 0 d
              ∙ ap (λ k. get_or xs k d) (omega arith)
              ∙ ap (λ k. get_or xs (index_at_rank count k) d) (sym here)
        ]

    pub length-by_columns : length (by_columns count xs) ≡ 8 * count
    length-by_columns = length-ranks (8 * count) (omega arith)

    pub by_columns-at : (i : ℕ) (d : A) → i < 8 * count
        → get_or (by_columns count xs) i d ≡ get_or xs (index_at_rank count i) d
    by_columns-at i d lt = ranks-at (8 * count) (omega arith) i d lt

    pub by_columns-of : (p : ℕ) (d : A) → p < 8 * count
        → get_or (by_columns count xs) (rank_of count p) d ≡ get_or xs p d
    by_columns-of p d lt = grind (arith, by_columns-at, rank_fits, index_of_rank_of)

    pub All-by_columns : (P : A → Type 0) → All P xs → All P (by_columns count xs)
    All-by_columns P each i d lt = grind (arith, length-by_columns, by_columns-at, index_fits, whole)

    pub All-by_indices : (P : A → Type 0) → All P (by_columns count xs) → All P xs
    All-by_indices P each p d lt =
        let inside : p < 8 * count = omega (arith, whole)
        in subst P (by_columns-of p d inside)
        (each (rank_of count p) d (let fits = rank_fits count p inside in omega (arith, fits, length-by_columns)))

pub lanes-by_columns : (count : ℕ) (hs ts qs : List ℕ) → length hs ≡ 8 * count → length ts ≡ length hs
    → length qs ≡ length hs
    → lanes (by_columns count hs) (by_columns count ts) (by_columns count qs) ≡ by_columns count (lanes hs ts qs)
lanes-by_columns count hs ts qs whole a b =
    grind (arith, length-by_columns, length-lanes, same_lists, index_fits, get_or-lanes, by_columns-at)

-- a number replaced at an index is replaced at its rank
pub by_columns-set : (count : ℕ) (xs : List ℕ) → length xs ≡ 8 * count → (p x : ℕ) → p < 8 * count
    → by_columns count (set xs p x) ≡ set (by_columns count xs) (rank_of count p) x
by_columns-set count xs whole p x lt =
    grind (
      arith,
      length-set,
      length-by_columns,
      rank_fits,
      same_lists,
      index_fits,
      by_columns-at,
      index_of_rank_of,
      get_or-set_same,
      rank_of_index,
      get_or-set_other,
      cases_lt,
    )
