-- The row of a state in which nothing waits: heads of 0, and behind them the greatest number.
use Rattle.std.proofs.Common.{◌≡◌, ℕ, zero, suc, ◌+◌, ◌-◌, ◌*◌, ◌/◌, ◌<◌, ◌≤◌, List, [], ◌∷◌, ◌++◌, length, map, take}
use Rattle.std.proofs.Common.{drop, replicate, get_or, refl, ap, sym, ◌∙◌, append-nil, append_assoc, arith}
use Rattle.std.proofs.lemmas.List.{drop-drop, drop-replicate, drop_at, length-append, length-map, length-replicate}
use Rattle.std.proofs.lemmas.List.{get_or-replicate, replicate_more, take-map}
use Rattle.shop_lanes.{specs.inner.Passes.IsPadded, proofs.{Padding.padded_none, RowValues.row_written}}

take_seen : (n x : ℕ) (rest : List ℕ) → take n (replicate n x ++ rest) ≡ replicate n x
take_seen zero x rest = refl
take_seen (suc n) x rest = ap (λ l. x ∷ l) (take_seen n x rest)

pub row_begun : (xs : List ℕ) (n y : ℕ) → xs ≡ xs ++ replicate (n - n) y
row_begun xs n y = sym (append-nil xs) ∙ ap (λ k. xs ++ replicate k y) {x = 0} {y = n - n} (omega arith)

pub row_more : (xs : List ℕ) (n i y : ℕ) → n ≤ i
    → (xs ++ replicate (i - n) y) ++ y ∷ [] ≡ xs ++ replicate (i + 1 - n) y
row_more xs n i y le = grind (arith, append_assoc, replicate_more)

row_long : (n m x y : ℕ) → length (replicate n x ++ replicate m y) ≡ n + m
row_long n m x y = grind (arith, length-append, length-replicate)

first_behind : (n m x y : ℕ) → 0 < m → get_or (replicate n x ++ replicate m y) n 0 ≡ y
first_behind zero m x y some = get_or-replicate m 0 y 0 some
first_behind (suc n) m x y some = first_behind n m x y some

ends_behind : (n m x y : ℕ) → drop (n + 8) (replicate n x ++ replicate (8 + m) y) ≡ replicate m y
ends_behind n m x y = sym (drop-drop 8 n (replicate n x ++ replicate (8 + m) y))
    ∙ (ap (drop 8) (drop_at (replicate n x) (replicate (8 + m) y) n (length-replicate n x))
    ∙ (drop-replicate 8 (8 + m) y ∙ ap (λ k. replicate k y) {x = 8 + m - 8} {y = m} (omega arith)))

pub record IsEmpty {A : Type 0} (f : A → ℕ) (none positions jobs : ℕ) (row : List A) : Type 0 where
  pub long : length row ≡ positions + 8 + 8 * (jobs / 8 + 1)
  pub behind : get_or (map f row) positions 0 ≡ none
  pub padded : IsPadded none jobs (drop (positions + 8) (map f row))
  pub heads : map f (take positions row) ≡ replicate positions 0
  pub ends : take jobs (drop (positions + 8) (map f row)) ≡ replicate jobs none

module _ {A : Type 0} (f : A → ℕ) (none positions jobs : ℕ) where
  abbrev behind : ℕ
  behind = 8 + 8 * (jobs / 8 + 1)

  abbrev numbers : List ℕ
  numbers = replicate positions 0 ++ replicate behind none

  pub is_empty : (row : List A) → map f row ≡ numbers → IsEmpty f none positions jobs row
  is_empty row is =
      let padding = padded_none none jobs (drop (positions + 8) (map f row))
      (ap (drop (positions + 8)) is ∙ ends_behind positions (8 * (jobs / 8 + 1)) 0 none)
      in let long : length row ≡ positions + behind =
      sym (length-map row f) ∙ (ap length is ∙ row_long positions behind 0 none)
      in record {
        long = omega arith;
        behind = ap (λ l. get_or l positions 0) is ∙ first_behind positions behind 0 none (omega arith);
        padded = padding.0;
        heads = grind (arith, take-map f positions row, take_seen positions 0 (replicate behind none));
        ends = padding.1;
      }

  -- a row that was lent, and in which all was written
  pub is_cleared : (n lent : ℕ) (made rest : List A) → lent ≡ positions + 8 + 8 * (jobs / 8 + 1) → n ≡ lent
      → map f made ≡ replicate positions 0 ++ replicate (lent - positions) none
      → map f (take n (made ++ rest)) ≡ numbers
  is_cleared n lent made rest long same is = grind (arith, row_written, behind, row_long)
