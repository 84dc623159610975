-- The rows of the next machine whose raise is taken, cut out of rows that were looked up before.
use Rattle.std.proofs.Common.{◌≡◌, ℕ, ◌+◌, ◌*◌, ◌^◌, ◌≤◌, ◌<◌, List, ◌∷◌, ap, get_or, length, map, refl, ◌∙◌, arith}
use Rattle.std.proofs.lemmas.List.{length-map}
use Rattle.shop_lanes.specs.{Rows.{AreBlocksOf, AreCutFrom, lanes_in}, declared.lane_rows.LaneRows.LaneRows}
use Rattle.shop_lanes.proofs.RowValues.{lanes_of_cut, long_cut}
use Rattle.shop_layout.specs.{Lanes.{lanes_on, rows_of}, Positions.LayoutState}
use Rattle.shop_states.specs.{declared.lane_raises.LaneRaise.LaneRaise, inner.LaneRaises.{Raise, raise_in, raise_of}}
use Rattle.shop_states.specs.inner.MachineRaises.{CanBoundRows, CanTakeSpans, IsSpanByRaise}
use Rattle.shop_states.proofs.RaisedMachines.{AreLeft, first_known}

module _ {greatest : ℕ} {old raises : List Raise} {raised machines rest : List ℕ} {l : LayoutState}
    {heads ends : List ℕ} (can : CanTakeSpans greatest old raised l (rows_of l heads ends))
    (left : AreLeft old raises machines) {m : ℕ} (popped : machines ≡ m ∷ rest) where
  pub its_known : m < length old
  its_known = let known = first_known left.are_listed popped in let long = left.long in omega arith

  pub its_small : m + 1 < 2 ^ 64
  its_small = let known = first_known left.are_listed popped in let few = left.are_listed.few in omega arith

  pub its_blocks : m + 1 < length l.blocks
  its_blocks = let known = its_known in let many = can.fits.known in omega arith

  module _ {from to : ℕ} (from_is : from ≡ get_or l.blocks m 0) (to_is : to ≡ get_or l.blocks (m + 1) 0) where
    are_blocks : AreBlocksOf heads l.times l.tails from to
    are_blocks = grind (arith, its_known)

    pub cut_ordered : from ≤ to
    cut_ordered = are_blocks.ordered

    module _ {N : Type 0} (value : N → ℕ) (rows : LaneRows N) (heads_are : map value rows.heads.now ≡ heads) where
      pub cut_within : 8 * to ≤ length rows.heads.now
      cut_within = grind (arith, length-map, are_blocks)

      module _ (times_are : map value rows.times.now ≡ l.times) (tails_are : map value rows.tails.now ≡ l.tails)
          {cut : LaneRows N} (are : AreCutFrom rows from to cut) where
        cut_lanes : lanes_in value cut ≡ lanes_on (rows_of l heads ends) l m
        cut_lanes = lanes_of_cut value are heads_are times_are tails_are are_blocks ∙ rw (from_is, to_is) refl

        module _ {raise : LaneRaise N} (raise_is : raise_in value raise ≡ raise_of raises m) where
          to_small : value raise.to ≤ (raise_of old m).to
          to_small = let same = ap (λ (r : Raise). r.to) raise_is in let smaller = left.smaller m in omega arith

          pub can_bound : (each : ℕ) → (0 < each → to ≡ from + each) → CanBoundRows value greatest each cut raise
          can_bound each count = grind (arith, long_cut, are_blocks, to_small, its_known, cut_lanes)

          pub cut_span : {limit least r : ℕ} → IsSpanByRaise (raise_in value raise) (lanes_in value cut) limit least r
              → IsSpanByRaise (raise_of raises m) (lanes_on (rows_of l heads ends) l m) limit least r
          cut_span {limit} {least} {r} span = grind (arith, cut_lanes)
