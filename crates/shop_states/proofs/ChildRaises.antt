-- The raises of a dispatch cover all heads by which the bound of the child may exceed that of its parent.
use Rattle.std.proofs.Common.{◌≡◌, ℕ, ◌+◌, ◌≤◌, ◌<◌, ◌⊎◌, List, [], ◌∷◌, ◌++◌, get_or, refl, ap, arith}
use Rattle.std.proofs.lemmas.Bool.{cases_lt}
use Rattle.shop_lanes.specs.{Rows.{Rows, lanes_of}, Spans.spans_between}
use Rattle.shop_model.specs.{Limits.IsWithinLimits, Shop.{Shop, machine_of, IsOperation}}
use Rattle.shop_model.specs.Word.{IsWord, placing, place_next}
use Rattle.shop_bound.specs.{Bound.lb, Heads.head_of, OneMachine.one}
use Rattle.shop_states.proofs.{BoundsUpTo.IsBoundUpTo, ChildBounds.child-le, LeftSlots.left_for}
use Rattle.shop_states.proofs.ChildExits.{after_spans-cover, after_spans-le}
use Rattle.shop_layout.specs.{HeadLimits.latest_end, Lanes.lanes_on, Positions.{LayoutState, IsLaidOut}}
use Rattle.shop_states.specs.inner.{LaneHeads.AreHeadsAt, LaneRaises.Raise}
use Rattle.shop_layout.proofs.{LaidPositions.each_position, LatestEnds.latest_end_is}

-- no head is later than the latest end
pub heads_small : (shop : Shop) → IsWithinLimits shop → (l : LayoutState) → IsLaidOut shop l → (w : List ℕ)
    → IsWord shop w → (hs : List ℕ) → AreHeadsAt shop (placing shop w) l hs → (q : ℕ)
    → get_or hs q 0 ≤ latest_end shop + 1
heads_small shop limits l laid w word hs heads q = grind (arith, each_position, cases_lt, latest_end_is)

module _ {shop : Shop} (limits : IsWithinLimits shop) {l : LayoutState} (laid : IsLaidOut shop l) (w : List ℕ)
    (j : ℕ) (fits : IsWord shop (w ++ j ∷ [])) {was now : List ℕ} (old : AreHeadsAt shop (placing shop w) l was)
    (new : AreHeadsAt shop (place_next shop (placing shop w) j) l now) where
  -- each head stayed, or is within the raise
  abbrev pub IsCovered : Raise → ℕ → Type 0
  IsCovered raise m = (i k : ℕ) → IsOperation shop i k → machine_of shop i k ≡ m
      → (place_next shop (placing shop w) j).steps i ≤ k
      → (head_of shop (placing shop w) i k ≡ head_of shop (place_next shop (placing shop w) j) i k)
      ⊎ ((raise.from ≤ head_of shop (placing shop w) i k + 1)
      × (head_of shop (place_next shop (placing shop w) j) i k + 1 ≤ raise.to))

  pub covered_all : (raise : Raise) → raise.from ≡ 0 → ((q : ℕ) → get_or now q 0 ≤ raise.to) → (m : ℕ)
      → IsCovered raise m
  covered_all raise from small m i k op on opened = grind arith

  -- in the lanes afterwards
  module _ (rows : Rows) (heads : rows.heads ≡ now) (times : rows.times ≡ l.times)
      (tails : rows.tails ≡ l.tails) where
    pub its_lanes : (m : ℕ) → lanes_on rows l m
        ≡ lanes_of now l.times l.tails (get_or l.blocks m 0) (get_or l.blocks (m + 1) 0)
    its_lanes m = rw (heads, times, tails) refl

    -- from `least` on, what bounds the spans that begin within the raise bounds all that is left
    abbrev pub IsBounded : ℕ → Raise → ℕ → Type 0
    IsBounded least raise m = (b : ℕ) → least ≤ b
        → spans_between raise.from raise.to (lanes_on rows l m) ≤ b + 1
        → one (left_for shop laid.slots (place_next shop (placing shop w) j) m) ≤ b

    pub bounded_by_raise : (least : ℕ) → lb shop w ≤ least → (raise : Raise) (m : ℕ) → m < shop.machines
        → IsCovered raise m → IsBounded least raise m
    bounded_by_raise least parent raise m known covered b above inside =
        after_spans-cover limits laid w j fits new m known raise.from raise.to b covered
        (let e = ap (spans_between raise.from raise.to) (its_lanes m) in omega arith) (omega arith)

    -- what bounds all that is left is the bound, where it is no more than that and spans bound
    pub bound_is : (least limit b : ℕ) → lb shop w ≤ least
        → (place_next shop (placing shop w) j).free (machine_of shop j ((placing shop w).steps j)) ≤ least
        → least ≤ lb shop (w ++ j ∷ []) → least ≤ b
        → (b < limit → (m : ℕ) → m < shop.machines
        → one (left_for shop laid.slots (place_next shop (placing shop w) j) m) ≤ b)
        → ((c : ℕ) → least ≤ c → ((m above upto : ℕ) → m < shop.machines
        → spans_between above upto (lanes_on rows l m) ≤ c + 1) → b ≤ c)
        → IsBoundUpTo limit (lb shop (w ++ j ∷ [])) b
    bound_is least limit b parent end most low left within =
        let at_most = within (lb shop (w ++ j ∷ [])) most (λ m above upto known.
        (let a = after_spans-le limits laid w j fits new m known above upto
        in let e = ap (spans_between above upto) (its_lanes m) in omega arith))
        in record {
          at_most = at_most;
          exact = λ under.
              let a = child-le limits laid.are w j fits b (omega arith) (omega arith) (left under)
              in omega arith;
        }
