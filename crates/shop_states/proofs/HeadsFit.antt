-- Heads of a word fit into lanes that hold the loads of all machines.
use Rattle.std.proofs.Common.{ℕ, arith}
use Rattle.shop_model.specs.{Limits.IsWithinLimits, Shop.Shop}
use Rattle.shop_layout.{specs.{HeadLimits.FitsLanes, Positions.LayoutState}, proofs.LatestEnds.latest_end_is}
use Rattle.shop_states.specs.inner.LaneHeads.{AreHeadsFit}

pub heads_fit : (greatest : ℕ) (shop : Shop) (l : LayoutState) → IsWithinLimits shop → FitsLanes greatest shop l
    → AreHeadsFit greatest shop
heads_fit greatest shop l limits holds w word j k op opened = grind (arith, latest_end_is)
