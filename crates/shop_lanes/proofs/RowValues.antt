-- Rows of numbers of some width, seen as numbers.
use Rattle.std.proofs.Common.{◌≡◌, ℕ, ◌-◌, ◌*◌, ◌/◌, ◌++◌, List, length, map, take, sym, ap, ◌∙◌, arith}
use Rattle.std.proofs.{lemmas.List.{length-map, take-map, drop-map}, Math.Seq.take-append_seam}
use Rattle.shop_lanes.specs.Rows.{AreBlocksOf, AreCutFrom, blocks, lanes_in, lanes_of}
use Rattle.shop_lanes.{specs.declared.lane_rows.LaneRows.LaneRows, proofs.LaneLists.{lanes-blocks, length-blocks}}

module _ {A : Type 0} (f : A → ℕ) where
  pub as_long : (xs ys : List A) → length xs ≡ length ys → length (map f xs) ≡ length (map f ys)
  as_long xs ys e = length-map xs f ∙ e ∙ sym (length-map ys f)

  -- the values of blocks that were sliced out of a row
  pub values_of_blocks : (xs : List A) (from to : ℕ) → map f (blocks from to xs) ≡ blocks from to (map f xs)
  values_of_blocks xs from to = grind (arith, drop-map, take-map)

  -- a row that was lent as a slice, in which these numbers were written
  pub row_written : (n : ℕ) (numbers : List ℕ) (new rest : List A) → map f new ≡ numbers → length numbers ≡ n
      → map f (take n (new ++ rest)) ≡ numbers
  row_written n numbers new rest e h = grind (arith, length-map, take-append_seam)

  -- blocks that were cut out of rows whose values are known
  module _ {rows cut : LaneRows A} {from to : ℕ} (are : AreCutFrom rows from to cut) {heads times tails : List ℕ}
      (heads_are : map f rows.heads.now ≡ heads) (times_are : map f rows.times.now ≡ times)
      (tails_are : map f rows.tails.now ≡ tails) (of : AreBlocksOf heads times tails from to) where
    pub heads_cut : map f cut.heads.now ≡ blocks from to heads
    heads_cut = ap (map f) are.heads ∙ values_of_blocks rows.heads.now from to ∙ ap (blocks from to) heads_are

    pub times_cut : map f cut.times.now ≡ blocks from to times
    times_cut = ap (map f) are.times ∙ values_of_blocks rows.times.now from to ∙ ap (blocks from to) times_are

    pub tails_cut : map f cut.tails.now ≡ blocks from to tails
    tails_cut = ap (map f) are.tails ∙ values_of_blocks rows.tails.now from to ∙ ap (blocks from to) tails_are

    pub long_cut : length cut.heads.now ≡ 8 * to - 8 * from
    long_cut = sym (length-map cut.heads.now f) ∙ ap length heads_cut ∙ length-blocks from to heads of.within

    pub count_cut : length cut.heads.now / 8 ≡ to - from
    count_cut = omega (arith, long_cut)

    pub lanes_of_cut : lanes_in f cut ≡ lanes_of heads times tails from to
    lanes_of_cut = grind (arith, count_cut, heads_cut, times_cut, tails_cut, lanes-blocks)
