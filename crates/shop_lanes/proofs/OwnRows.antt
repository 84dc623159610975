-- Own spans in blocks that were sliced out of rows are those of the rows.
use Rattle.std.proofs.Common.{◌≡◌, ℕ, zero, suc, ◌+◌, ◌-◌, ◌*◌, ◌<◌, ◌≤◌, List, [], ◌∷◌, length, map, take, drop, set}
use Rattle.std.proofs.{Common.{get_or, refl, ap, sym, ◌∙◌, arith, length-set}, lemmas.Simd.get_or-chunk}
use Rattle.shop_lanes.specs.{Rows.{AreBlocksOf, AreCutFrom, lanes, blocks}, declared.lane_rows.LaneRows.LaneRows}
use Rattle.shop_lanes.specs.{Spans.{own_span, AreOwnSpans}, inner.OwnSpans.{own_span_at, AreOwnSpansOf}}
use Rattle.shop_lanes.proofs.{LaneLists.lanes-blocks, Padding.take-set}
use Rattle.shop_lanes.proofs.RowValues.{count_cut, heads_cut, long_cut, tails_cut, times_cut}

drop-set : (k i x : ℕ) (xs : List ℕ) → drop k (set xs (k + i) x) ≡ set (drop k xs) i x
drop-set zero i x xs = grind arith
drop-set (suc k) i x [] = refl
drop-set (suc k) i x (y ∷ xs) = grind (arith, drop-set k i x xs)

own_in_blocks : (hs ts qs : List ℕ) (from to q : ℕ) → length ts ≡ length hs → length qs ≡ length hs → 8 * from ≤ q
    → q < 8 * to
    → own_span_at (to - from) (blocks from to hs) (blocks from to ts) (blocks from to qs) (q - 8 * from)
    ≡ own_span hs ts qs from to q
own_in_blocks hs ts qs from to q a b le lt =
    let i = q - 8 * from
    in let at : 8 * from + i ≡ q = omega arith
    in let inside : i < 8 * to - 8 * from = omega arith
    in let head : get_or (blocks from to hs) i 0 ≡ get_or hs q 0 =
    get_or-chunk (8 * from) (8 * to - 8 * from) hs i 0 inside ∙ ap (λ k. get_or hs k 0) at
    in let time : get_or (blocks from to ts) i 0 ≡ get_or ts q 0 =
    get_or-chunk (8 * from) (8 * to - 8 * from) ts i 0 inside ∙ ap (λ k. get_or ts k 0) at
    in let out : set (blocks from to hs) i 0 ≡ blocks from to (set hs q 0) =
    sym (take-set (8 * to - 8 * from) (drop (8 * from) hs) i 0)
    ∙ ap (take (8 * to - 8 * from)) (sym (drop-set (8 * from) i 0 hs))
    ∙ ap (λ k. blocks from to (set hs k 0)) at
    in let many : length (set hs q 0) ≡ length hs = length-set hs q 0
    in let whole : lanes (set (blocks from to hs) i 0) (blocks from to ts) (blocks from to qs)
    ≡ blocks from to (lanes (set hs q 0) ts qs) =
    ap (λ l. lanes l (blocks from to ts) (blocks from to qs)) out
    ∙ lanes-blocks (set hs q 0) ts qs from to (a ∙ sym many) (b ∙ sym many)
    in let end : get_or (blocks from to hs) i 0 + get_or (blocks from to ts) i 0 ≡ get_or hs q 0 + get_or ts q 0 =
    omega (arith, head, time)
    in grind (arith, i, at, inside, time, out, many, whole, end)

module _ {A : Type 0} (f : A → ℕ) {rows cut : LaneRows A} {from to : ℕ} (are : AreCutFrom rows from to cut)
    {heads times tails : List ℕ} (heads_are : map f rows.heads.now ≡ heads) (times_are : map f rows.times.now ≡ times)
    (tails_are : map f rows.tails.now ≡ tails) (of : AreBlocksOf heads times tails from to) where
  pub owns_of_cut : (owns : List A) → AreOwnSpansOf f cut owns
      → AreOwnSpans heads times tails from to (map f owns)
  owns_of_cut owns h q low high waits =
      let i = q - 8 * from
      in let h_is = heads_cut f are heads_are times_are tails_are of
      in let t_is = times_cut f are heads_are times_are tails_are of
      in let q_is = tails_cut f are heads_are times_are tails_are of
      in let many = long_cut f are heads_are times_are tails_are of
      in let count = count_cut f are heads_are times_are tails_are of
      in let whole : 8 * from + i ≡ q = omega arith
      in let head : get_or (map f cut.heads.now) i 0 ≡ get_or heads q 0 =
      ap (λ l. get_or l i 0) h_is
      ∙ get_or-chunk (8 * from) (8 * to - 8 * from) heads i 0 (omega arith)
      ∙ ap (λ k. get_or heads k 0) whole
      in let as_many = of.times_are_as_many in let tails_as_many = of.tails_are_as_many
      in grind (arith, i, h_is, t_is, q_is, whole, many, count, as_many, tails_as_many, own_in_blocks)
