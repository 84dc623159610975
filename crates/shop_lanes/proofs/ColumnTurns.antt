-- Eight columns served side by side, a block at a time, over lists alone.
use Rattle.std.proofs.Common.{◌≡◌, ℕ, suc, ◌+◌, ◌*◌, ◌<◌, ◌≤◌, max, cond, leb, List, [], ◌∷◌, ◌++◌, length, take, drop}
use Rattle.std.proofs.Common.{get_or, refl, ap, sym, ◌∙◌, arith, subst, replicate, ◌/◌, ◌%◌, map, sum_by}
use Rattle.std.proofs.{Math.Seq.take-suc, lemmas.List.{get_or-drop, length-drop, length-map}, lemmas.Simd.get_or-chunk}
use lib.Lanes.{zip2}
use Rattle.shop_lanes.specs.{Eights.{added, waiting, AddsFit}, Rows.{Lane, lanes, by_columns, lanes_in}}
use Rattle.shop_lanes.specs.{declared.lane_rows.LaneRows.LaneRows, Spans.{span, greatest_by, FitsSpan}}
use Rattle.shop_lanes.{specs.inner.Passes.{clock_after, eight}, proofs.Eights.{on_eight, same_eight}}
use Rattle.shop_lanes.proofs.{BlockMasks.length-block, RowValues.as_long, Columns.{rank_below, length-by_columns}}
use Rattle.shop_lanes.proofs.{Columns.{by_columns-at, index_of_rank}, LaneLists.{lane_at, length-lanes, get_or-lanes}}
use Rattle.shop_lanes.proofs.{Loads.{work_more, load_more, work_le}, SpanParts.{each_greatest, sum_part}}

-- eight numbers as a function of the column
pub eight_same : (f g : ℕ → ℕ) → ((k : ℕ) → k < 8 → f k ≡ g k) → eight f ≡ eight g
eight_same f g same = grind (arith, same_eight)

pub in_eight : (f : ℕ → ℕ) (k : ℕ) → k < 8 → get_or (eight f) k 0 ≡ f k
in_eight f x lt = grind arith

pub as_eight : (v : List ℕ) → length v ≡ 8 → v ≡ eight (λ k. get_or v k 0)
as_eight = on_eight (λ v. v ≡ eight (λ k. get_or v k 0)) (λ a b c d e f g h. refl)

pub eight_fit : (limit : ℕ) (f g : ℕ → ℕ) → ((k : ℕ) → k < 8 → f k + g k ≤ limit) → AddsFit limit (eight f) (eight g)
eight_fit limit f g each = grind arith

pub block_eight : (b : ℕ) (xs : List ℕ) → 8 * (b + 1) ≤ length xs
    → take 8 (drop (8 * b) xs) ≡ eight (λ k. get_or xs (8 * b + k) 0)
block_eight b xs room =
    as_eight (take 8 (drop (8 * b) xs)) (length-block b xs room)
    ∙ eight_same (λ k. get_or (take 8 (drop (8 * b) xs)) k 0) (λ k. get_or xs (8 * b + k) 0)
    (λ k lt. get_or-chunk (8 * b) 8 xs k 0 lt)

-- lanes in order of rank, of rows as they stand
pub record AreColumnsOf (count : ℕ) (hs ts qs : List ℕ) (all : List Lane) : Type 0 where
  pub heads_long : length hs ≡ 8 * count
  pub times_long : length ts ≡ 8 * count
  pub tails_long : length qs ≡ 8 * count
  pub are : all ≡ by_columns count (lanes hs ts qs)
  pub long : length all ≡ 8 * count
  pub at : (k j : ℕ) → k < 8 → j < count → (d : Lane) → get_or all (k * count + j) d ≡ lane_at hs ts qs (8 * j + k)

pub columns_of : (count : ℕ) (hs ts qs : List ℕ) → length hs ≡ 8 * count → length ts ≡ length hs
    → length qs ≡ length hs → AreColumnsOf count hs ts qs (by_columns count (lanes hs ts qs))
columns_of count hs ts qs whole a b =
    let long = length-lanes hs ts qs a b ∙ whole
    in record {
      heads_long = whole;
      times_long = a ∙ whole;
      tails_long = b ∙ whole;
      are = refl;
      long = length-by_columns count (lanes hs ts qs) long;
      at = λ k j k_lt j_lt d. grind (arith, rank_below, by_columns-at, index_of_rank, get_or-lanes);
    }

-- of rows of some width
pub columns_in : {A : Type 0} (f : A → ℕ) (rows : LaneRows A) (count : ℕ) → length rows.heads.now ≡ count
    → length rows.heads.now % 8 ≡ 0
    → AreColumnsOf (count / 8) (map f rows.heads.now) (map f rows.times.now) (map f rows.tails.now) (lanes_in f rows)
columns_in f rows count e whole = grind (arith, columns_of, length-map, as_long)

-- the first j lanes of column k, and all lanes up to there
abbrev pub part_of : ℕ → List Lane → ℕ → ℕ → List Lane
part_of count all k j = take j (drop (k * count) all)

abbrev pub front_of : ℕ → List Lane → ℕ → ℕ → List Lane
front_of count all k j = take (k * count + j) all

-- a pass as far as block j, which keeps for column k what some lanes come to
pub record IsServedTo (least : ℕ) (part : ℕ → ℕ → List Lane) (j : ℕ) (clocks most : List ℕ) : Type 0 where
  pub clocks_are : clocks ≡ eight (λ k. clock_after least 0 (part k j))
  pub most_are : most ≡ eight (λ k. span least 0 (part k j))

pub served_whole : {least count : ℕ} {part : ℕ → ℕ → List Lane} {j : ℕ} {clocks most : List ℕ} → j ≡ count
    → IsServedTo least part j clocks most → IsServedTo least part count clocks most
served_whole e served = rw (sym e) served

-- what a pass has served of column k, j blocks down, each block one lane more
pub record AreParts (count : ℕ) (hs ts qs : List ℕ) (all : List Lane) (part : ℕ → ℕ → List Lane) : Type 0 where
  pub more : (k j : ℕ) → k < 8 → j < count → part k (suc j) ≡ part k j ++ (lane_at hs ts qs (8 * j + k) ∷ [])
  pub within : (k j : ℕ) → sum_by (λ x. x.time) (part k j) ≤ sum_by (λ x. x.time) all

module _ {count : ℕ} {hs ts qs : List ℕ} {all : List Lane} (c : AreColumnsOf count hs ts qs all) where
  -- what stands in column k, j blocks down
  abbrev here : ℕ → ℕ → Lane
  here k j = lane_at hs ts qs (8 * j + k)

  pub tail_small : (k j : ℕ) → k < 8 → j < count → get_or qs (8 * j + k) 0 ≤ greatest_by (λ x. x.tail) all
  tail_small k j k_lt j_lt =
      let below = rank_below count k j k_lt j_lt
      in let each = each_greatest (λ x. x.tail) all (k * count + j) (here k j) (omega (arith, below, c.long))
      in let is : (get_or all (k * count + j) (here k j)).tail ≡ get_or qs (8 * j + k) 0 =
      ap (λ x. x.tail) (c.at k j k_lt j_lt (here k j))
      in omega (arith, each, is)

  pub parts : AreParts count hs ts qs all (part_of count all)
  parts = record {
    more = λ k j k_lt j_lt.
        let below = rank_below count k j k_lt j_lt
        in let long = length-drop (k * count) all
        in take-suc (drop (k * count) all) j (here k j) (omega (arith, long, below, c.long))
        ∙ ap (λ x. part_of count all k j ++ (x ∷ []))
        (get_or-drop (k * count) all j (here k j) ∙ c.at k j k_lt j_lt (here k j));
    within = λ k j. sum_part (λ x. x.time) j (k * count) all;
  }

  pub fronts : AreParts count hs ts qs all (front_of count all)
  fronts = record {
    more = λ k j k_lt j_lt.
        let below = rank_below count k j k_lt j_lt
        in let on : k * count + suc j ≡ suc (k * count + j) = omega arith
        in ap (λ n. take n all) on
        ∙ take-suc all (k * count + j) (here k j) (omega (arith, below, c.long))
        ∙ ap (λ x. front_of count all k j ++ (x ∷ [])) (c.at k j k_lt j_lt (here k j));
    within = λ k j. sum_part (λ x. x.time) (k * count + j) 0 all;
  }

  module _ {part : ℕ → ℕ → List Lane} (p : AreParts count hs ts qs all part) (least : ℕ) where
    abbrev work : ℕ → ℕ → ℕ
    work k j = clock_after least 0 (part k j)

    abbrev end : ℕ → ℕ → ℕ
    end k j = span least 0 (part k j)

    -- the time that the lane adds
    abbrev added_by : ℕ → ℕ → ℕ
    added_by k j = cond (leb least (get_or hs (8 * j + k) 0)) (get_or ts (8 * j + k) 0) 0

    -- when the lane ends, its tail included
    abbrev late : ℕ → ℕ → ℕ
    late k j = cond (leb least (get_or hs (8 * j + k) 0)) (work k j + added_by k j + get_or qs (8 * j + k) 0) 0

    pub work_next : (k j : ℕ) → k < 8 → j < count → work k (suc j) ≡ work k j + added_by k j
    work_next k j k_lt j_lt = ap (clock_after least 0) (p.more k j k_lt j_lt) ∙ work_more least (part k j) (here k j)

    end_next : (k j : ℕ) → k < 8 → j < count → end k (suc j) ≡ max (end k j) (late k j)
    end_next k j k_lt j_lt = ap (span least 0) (p.more k j k_lt j_lt) ∙ load_more least (part k j) (here k j)

    pub work_small : (limit : ℕ) → FitsSpan limit 0 all → (k j : ℕ)
        → work k j + greatest_by (λ x. x.tail) all ≤ limit
    work_small limit fits k j = grind (arith, work_le)

    -- block j, as it is read and served
    module _ {j : ℕ} (j_lt : j < count) {heads times tails leasts clocks most : List ℕ}
        (heads_are : heads ≡ take 8 (drop (8 * j) hs)) (times_are : times ≡ take 8 (drop (8 * j) ts))
        (tails_are : tails ≡ take 8 (drop (8 * j) qs)) (leasts_are : leasts ≡ replicate 8 least)
        (so_far : IsServedTo least part j clocks most) where
      abbrev served : List ℕ
      served = waiting (get_or leasts 0 0) heads times

      least_at : get_or leasts 0 0 ≡ least
      least_at = ap (λ l. get_or l 0 0) leasts_are

      heads_eight : heads ≡ eight (λ k. get_or hs (8 * j + k) 0)
      heads_eight = heads_are ∙ block_eight j hs (omega (arith, c.heads_long))

      times_eight : times ≡ eight (λ k. get_or ts (8 * j + k) 0)
      times_eight = times_are ∙ block_eight j ts (omega (arith, c.times_long))

      tails_eight : tails ≡ eight (λ k. get_or qs (8 * j + k) 0)
      tails_eight = tails_are ∙ block_eight j qs (omega (arith, c.tails_long))

      pub heads_long : length heads ≡ 8
      heads_long = ap length heads_eight

      pub times_long : length times ≡ 8
      times_long = ap length times_eight

      pub tails_long : length tails ≡ 8
      tails_long = ap length tails_eight

      served_eight : served ≡ eight (λ k. added_by k j)
      served_eight = grind (arith, least_at, heads_eight, times_eight)

      after_eight : added clocks served ≡ eight (λ k. work k j + added_by k j)
      after_eight = grind (arith, served_eight)

      clocks_fit : (limit : ℕ) → FitsSpan limit 0 all → AddsFit limit clocks served
      clocks_fit limit fits =
          subst (λ l. AddsFit limit l served) (sym so_far.clocks_are)
          (subst (AddsFit limit (eight (λ k. work k j))) (sym served_eight)
          (eight_fit limit (λ k. work k j) (λ k. added_by k j) (λ k lt.
          let next = work_next k j lt j_lt
          in let small = work_small limit fits k (suc j)
          in omega (arith, next, small))))

      ends_fit : (limit : ℕ) → FitsSpan limit 0 all → AddsFit limit (added clocks served) tails
      ends_fit limit fits =
          subst (λ l. AddsFit limit l tails) (sym after_eight)
          (subst (AddsFit limit (eight (λ k. work k j + added_by k j))) (sym tails_eight)
          (eight_fit limit (λ k. work k j + added_by k j) (λ k. get_or qs (8 * j + k) 0) (λ k lt.
          let next = work_next k j lt j_lt
          in let small = work_small limit fits k (suc j)
          in let tail = tail_small k j lt j_lt
          in omega (arith, next, small, tail))))

      pub both_fit : (limit : ℕ) → FitsSpan limit 0 all
          → AddsFit limit clocks served × AddsFit limit (added clocks served) tails
      both_fit limit fits = (clocks_fit limit fits, ends_fit limit fits)

      module _ {after : List ℕ} (after_is : after ≡ added clocks served) where
        next_eight : after ≡ eight (λ k. work k j + added_by k j)
        next_eight = after_is ∙ after_eight

        pub late_eight : waiting (get_or leasts 0 0) heads (added after tails) ≡ eight (λ k. late k j)
        late_eight = grind (arith, least_at, heads_eight, next_eight, tails_eight)

        pub served_more : {later : List ℕ}
            → later ≡ zip2 max most (waiting (get_or leasts 0 0) heads (added after tails))
            → IsServedTo least part (j + 1) after later
        served_more {later} later_is = grind (arith, next_eight, eight_same, work_next, late_eight, end_next)
