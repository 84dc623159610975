-- The load of columns served one after the other, from the load of each by itself.
use Rattle.std.proofs.Common.{◌≡◌, ℕ, zero, suc, ◌+◌, ◌*◌, ◌<◌, ◌≤◌, max, List, [], ◌∷◌, ◌++◌, take, drop, get_or, refl}
use Rattle.std.proofs.{Common.{ap, sym, ◌∙◌, arith, take-append-drop}, Math.Seq.{take-suc, take-add}}
use Rattle.std.proofs.lemmas.List.{drop-drop, drop_all}
use lib.Lanes.{sum_l}
use Rattle.shop_lanes.specs.{Eights.{added, AddsFit}, Folds.{greatest, sums_before}, Rows.Lane, Spans.{span, FitsSpan}}
use Rattle.shop_lanes.{specs.inner.Passes.{clock_after, column, eight}, proofs.Extremes.greatest-append}
use Rattle.shop_lanes.proofs.{ColumnTurns.{AreColumnsOf, eight_fit, in_eight}, Loads.{work-append, load-append}}
use Rattle.shop_lanes.proofs.{Loads.{work_le, load_le, work_le_load}, SpanParts.{sum_part, greatest_part}}

pub next_column : (k count : ℕ) → suc k * count ≡ k * count + count
next_column k count = omega arith

no_columns : (count : ℕ) → 0 * count ≡ 0
no_columns count = omega arith

abbrev listed : (ℕ → ℕ) → ℕ → ℕ → List ℕ
listed f k zero = []
listed f k (suc n) = f k ∷ listed f (suc k) n

module _ (least : ℕ) {count : ℕ} {hs ts qs : List ℕ} {all : List Lane} (cols : AreColumnsOf count hs ts qs all) where
  -- the clock where column k begins
  abbrev pub begin : ℕ → ℕ
  begin k = clock_after least 0 (take (k * count) all)

  abbrev pub work : ℕ → ℕ
  work k = clock_after least 0 (column count all k)

  abbrev pub load : ℕ → ℕ
  load k = span least 0 (column count all k)

  up_to_next : (k : ℕ) → take (suc k * count) all ≡ take (k * count) all ++ column count all k
  up_to_next k = ap (λ n. take n all) (next_column k count) ∙ take-add (k * count) count all

  from_here : (k : ℕ) → drop (k * count) all ≡ column count all k ++ drop (suc k * count) all
  from_here k =
      grind (arith, take-append-drop count (drop (k * count) all), drop-drop count (k * count) all, next_column k count)

  pub begin_next : (k : ℕ) → begin (suc k) ≡ begin k + work k
  begin_next k = grind (arith, up_to_next, work-append)

  before_next : (k : ℕ) → span least 0 (take (suc k * count) all)
      ≡ max (span least 0 (take (k * count) all)) (begin k + load k)
  before_next k = ap (span least 0) (up_to_next k) ∙ load-append least (take (k * count) all) (column count all k)

  behind_here : (k : ℕ) → span least 0 (drop (k * count) all)
      ≡ max (load k) (work k + span least 0 (drop (suc k * count) all))
  behind_here k = ap (span least 0) (from_here k) ∙ load-append least (column count all k) (drop (suc k * count) all)

  none_left : (k : ℕ) → k + 0 ≡ 8 → drop (k * count) all ≡ []
  none_left k e = grind (arith, drop_all)

  -- when each column ends, if all are served one after the other
  abbrev pub finish : ℕ → ℕ
  finish k = begin k + load k

  ends_from : (n k : ℕ) → k + n ≡ 8
      → max (begin k) (greatest (listed finish k n)) ≡ begin k + span least 0 (drop (k * count) all)
  ends_from zero k e = grind (arith, none_left)
  ends_from (suc n) k e = grind (arith, ends_from n (suc k) (omega (arith, e)), begin_next, behind_here, work_le_load)

  begins_from : (n k : ℕ) → sums_before (begin k) (listed work k n) ≡ listed begin k n
  begins_from zero k = refl
  begins_from (suc n) k = grind (arith, begin_next, begins_from n (suc k))

  work_from : (n k : ℕ) → k + n ≡ 8 → sum_l (listed work k n) ≡ clock_after least 0 (drop (k * count) all)
  work_from zero k e = sym (ap (clock_after least 0) (none_left k e))
  work_from (suc n) k e = grind (arith, work_from n (suc k) (omega (arith, e)), from_here, work-append)

  first_begin : begin 0 ≡ 0
  first_begin = ap (λ n. clock_after least 0 (take n all)) (no_columns count)

  begins_are : sums_before 0 (eight work) ≡ eight begin
  begins_are = ap (λ s. sums_before s (eight work)) (sym first_begin) ∙ begins_from 8 0

  all_work : sum_l (eight work) ≡ clock_after least 0 all
  all_work = work_from 8 0 refl ∙ ap (λ n. clock_after least 0 (drop n all)) (no_columns count)

  pub last_end : greatest (eight finish) ≡ span least 0 all
  last_end = grind (arith, ends_from 8 0 refl, first_begin, ap (λ n. span least 0 (drop n all)) (no_columns count))

  pub ends_behind : (k : ℕ) → k < 8
      → max (begin (suc k)) (greatest (drop (suc k) (eight finish)))
      ≡ begin (suc k) + span least 0 (drop (suc k * count) all)
  ends_behind zero lt = ends_from 7 1 refl
  ends_behind (suc zero) lt = ends_from 6 2 refl
  ends_behind (suc (suc zero)) lt = ends_from 5 3 refl
  ends_behind (suc (suc (suc zero))) lt = ends_from 4 4 refl
  ends_behind (suc (suc (suc (suc zero)))) lt = ends_from 3 5 refl
  ends_behind (suc (suc (suc (suc (suc zero))))) lt = ends_from 2 6 refl
  ends_behind (suc (suc (suc (suc (suc (suc zero)))))) lt = ends_from 1 7 refl
  ends_behind (suc (suc (suc (suc (suc (suc (suc zero))))))) lt = ends_from 0 8 refl
  ends_behind (suc (suc (suc (suc (suc (suc (suc (suc k)))))))) lt = absurd (omega arith)

  pub ends_before : (k : ℕ) → k ≤ 8 → greatest (take k (eight finish)) ≡ span least 0 (take (k * count) all)
  ends_before zero le = sym (ap (λ n. span least 0 (take n all)) (no_columns count))
  ends_before (suc k) le =
      let rest = ends_before k (omega arith)
      in let more : greatest (take (suc k) (eight finish)) ≡ max (greatest (take k (eight finish))) (max (finish k) 0) =
      ap greatest (take-suc (eight finish) k 0 (omega arith))
      ∙ greatest-append (take k (eight finish)) (get_or (eight finish) k 0 ∷ [])
      ∙ ap (λ n. max (greatest (take k (eight finish))) (max n 0)) (in_eight finish k (omega arith))
      in let next = before_next k
      in omega (arith, rest, more, next)

  module _ (limit : ℕ) (fits : FitsSpan limit 0 all) where
    begin_fits : (k : ℕ) → begin k + work k ≤ limit
    begin_fits k =
        let next = begin_next k
        in let a = work_le least (take (suc k * count) all)
        in let b = sum_part (λ x. x.time) (suc k * count) 0 all
        in omega (arith, fits, next, a, b)

    finish_fits : (k : ℕ) → begin k + load k ≤ limit
    finish_fits k =
        let next = begin_next k
        in let a = work_le least (take (suc k * count) all)
        in let b = sum_part (λ x. x.time) (suc k * count) 0 all
        in let c = load_le least (column count all k)
        in let d = greatest_part (λ x. x.tail) count (k * count) all
        in omega (arith, fits, next, a, b, c, d)

  -- what the scan of the columns gives
  module _ {works : List ℕ} (works_are : works ≡ eight work) where
    pub works_fit : (limit : ℕ) → FitsSpan limit 0 all → sum_l works ≤ limit
    works_fit limit fits = grind (arith, work_le, all_work)

    module _ {begins : List ℕ} (begins_told : begins ≡ sums_before 0 works) where
      pub begins_eight : begins ≡ eight begin
      begins_eight = begins_told ∙ ap (sums_before 0) works_are ∙ begins_are

      pub begins_fit : (limit : ℕ) → FitsSpan limit 0 all → AddsFit limit begins works
      begins_fit limit fits = grind (arith, begins_eight, eight_fit, begin_fits)

      module _ {most : List ℕ} (most_are : most ≡ eight load) where
        pub ends_fit : (limit : ℕ) → FitsSpan limit 0 all → AddsFit limit begins most
        ends_fit limit fits = grind (arith, begins_eight, eight_fit, finish_fits)

        pub ends_eight : {ends : List ℕ} → ends ≡ added begins most → ends ≡ eight finish
        ends_eight told = grind (arith, begins_eight)
