use Rattle.std.{proofs.Common.{◌≡◌, ◌∙◌, ℕ, ◌≤◌, List, ap, arith}, specs.List.All}
use Rattle.shop_model.specs.Shop.{Shop}
use Rattle.shop_layout.{specs.{LaidOuts.IsReady, Positions.LayoutState}, proofs.LaneLimits.{tails_fit, times_fit}}
use Rattle.shop_layout.proofs.fixed_rows.put_in_lanes.Goals as goal

-- the rows of a layout that is ready, as they were lent
module _ {greatest : ℕ} {l : LayoutState} (ready : (shop : Shop) × IsReady greatest shop l) where
  lent_times : {times : List ℕ} → times ≡ l.times → All (λ t. t ≤ greatest) times
  lent_times e = grind (arith, times_fit greatest ready.0 ready.1.limits l ready.1.laid ready.1.holds)

  lent_tails : {tails : List ℕ} → tails ≡ l.tails → All (λ t. t ≤ greatest) tails
  lent_tails e = grind (arith, tails_fit greatest ready.0 ready.1.limits l ready.1.laid ready.1.holds)

pub in_lanes-requires : goal.in_lanes-requires
in_lanes-requires g c = lent_times c.requires
    (c.as_slice.ensures.value ∙ ap (λ (x : LayoutState). x.times) c.positions.view_is)

pub in_lanes-requires-2 : goal.in_lanes-requires-2
in_lanes-requires-2 g c = lent_tails c.requires
    (c.as_slice-2.ensures.value ∙ ap (λ (x : LayoutState). x.tails) c.positions.view_is)
