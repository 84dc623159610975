-- The least and the greatest of lanes are the same in any order.
use Rattle.std.proofs.Common.{◌≡◌, ℕ, zero, suc, ◌*◌, ◌/◌, ◌%◌, ◌<◌, ◌≤◌, List, [], ◌∷◌, length, map, ◌+◌, get_or, min}
use Rattle.std.{proofs.{Common.{◌∙◌, arith}, lemmas.List.length-map}, specs.List.All}
use Rattle.shop_lanes.specs.{Eights.{ahead_of, later_head}, Folds.least_up_to, Rows.{Lane, lanes, by_columns, lanes_in}}
use Rattle.shop_lanes.{specs.{declared.lane_rows.LaneRows.LaneRows, Spans.greatest_by}, proofs.SpanParts.each_greatest}
use Rattle.shop_lanes.proofs.{Columns.{All-by_columns, All-by_indices}, LaneLists.length-lanes, RowValues.as_long}
use Rattle.shop_lanes.proofs.{LaterTurns.nearest_is_least, LeapTurns.{least_head, least_head_is}}

greatest_within : (f : Lane → ℕ) (m : ℕ) (xs : List Lane) → All (λ x. f x ≤ m) xs → greatest_by f xs ≤ m
greatest_within f m [] each = omega arith
greatest_within f m (x ∷ xs) each =
    grind (arith, each 0 x (omega arith), greatest_within f m xs (λ k d lt. each (suc k) d (omega arith)))

least_each : (top from : ℕ) (xs : List Lane) (i : ℕ) (d : Lane) → i < length xs
    → least_head top from xs ≤ later_head top from (get_or xs i d).head
least_each top from [] i d lt = absurd (omega arith)
least_each top from (x ∷ xs) zero d lt = omega arith
least_each top from (x ∷ xs) (suc i) d lt = let rest = least_each top from xs i d (omega arith) in omega (arith, rest)

least_le : (top from : ℕ) (xs : List Lane) → least_head top from xs ≤ top
least_le top from [] = omega arith
least_le top from (x ∷ xs) = let rest = least_le top from xs in omega (arith, rest)

least_within : (top from m : ℕ) (xs : List Lane) → m ≤ top → All (λ x. m ≤ later_head top from x.head) xs
    → m ≤ least_head top from xs
least_within top from m [] le each = le
least_within top from m (x ∷ xs) le each =
    grind (arith, each 0 x (omega arith), least_within top from m xs le (λ k d lt. each (suc k) d (omega arith)))

module _ (count : ℕ) (xs : List Lane) (whole : length xs ≡ 8 * count) where
  pub greatest-by_columns : (f : Lane → ℕ) → greatest_by f (by_columns count xs) ≡ greatest_by f xs
  greatest-by_columns f =
      let ranked = by_columns count xs
      in let a = greatest_within f (greatest_by f xs) ranked
      (All-by_columns count xs whole (λ x. f x ≤ greatest_by f xs) (λ k d lt. each_greatest f xs k d lt))
      in let b = greatest_within f (greatest_by f ranked) xs
      (All-by_indices count xs whole (λ x. f x ≤ greatest_by f ranked) (λ k d lt. each_greatest f ranked k d lt))
      in omega (arith, a, b)

  pub least-by_columns : (top from : ℕ) → least_head top from (by_columns count xs) ≡ least_head top from xs
  least-by_columns top from =
      let ranked = by_columns count xs
      in let a = least_within top from (least_head top from xs) ranked (least_le top from xs)
      (All-by_columns count xs whole (λ x. least_head top from xs ≤ later_head top from x.head)
      (λ k d lt. least_each top from xs k d lt))
      in let b = least_within top from (least_head top from ranked) xs (least_le top from ranked)
      (All-by_indices count xs whole (λ x. least_head top from ranked ≤ later_head top from x.head)
      (λ k d lt. least_each top from ranked k d lt))
      in omega (arith, a, b)

module _ {A : Type 0} (f : A → ℕ) (rows : LaneRows A) (whole : length rows.heads.now % 8 ≡ 0) where
  abbrev raw : List Lane
  raw = lanes (map f rows.heads.now) (map f rows.times.now) (map f rows.tails.now)

  raw_long : length raw ≡ length rows.heads.now
  raw_long = grind (arith, length-lanes, length-map)

  raw_whole : length raw ≡ 8 * (length rows.heads.now / 8)
  raw_whole = raw_long ∙ omega (arith, whole)

  pub nearest_in : (top from ahead : ℕ) → from ≤ top
      → ahead ≡ least_up_to top (map (ahead_of top from) (map f rows.heads.now))
      → min (from + ahead) top ≡ least_head top from (lanes_in f rows)
  nearest_in top from ahead le is = grind (arith, nearest_is_least, least_head_is, as_long, least-by_columns, raw_whole)

  -- where it isn't past some number below the greatest one, the nearest head ahead is the least
  pub next_head : (top from ahead upto : ℕ) → upto < top
      → ahead ≡ least_up_to top (map (ahead_of top from) (map f rows.heads.now)) → from + ahead ≤ upto
      → from + ahead ≡ least_head top from (lanes_in f rows)
  next_head top from ahead upto below is under = grind (arith, nearest_in top from ahead (omega arith) is)
