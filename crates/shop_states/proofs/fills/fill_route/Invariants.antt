use Rattle.std.proofs.Common.{◌≡◌, ℕ, ◌<◌, ◌-◌, length}
use Rattle.shop_model.specs.Placements.{PlacementState}
use Rattle.shop_states.{specs.inner.{LaidLanes.rows_in, Fills.IsAtLeg}, proofs.FillTurns.IsFillingTo}
use Rattle.shop_layout.specs.Legs.{all_legs}
use Rattle.shop_states.proofs.fills.fill_route.Given as goal

abbrev pub invariant-loop-routes : goal.invariant-loop-routes
invariant-loop-routes g l = record {
  filling : (j : ℕ) → j < length l.laid_out.shop.jobs → (s : PlacementState)
      → IsAtLeg l.laid_out.shop l.laid_out.layout s j l.index l.ready l.free
      → IsFillingTo l.laid_out.shop l.laid_out.layout s j l.at l.begin
      (rows_in g.L.StateLanes l.laid_out.layout l.fn.lanes) (rows_in g.L.StateLanes l.laid_out.layout l.lanes);
  ends : g.L.StateLanes.ends l.lanes ≡ g.L.StateLanes.ends l.fn.lanes;
}

abbrev pub decreases-loop-routes : goal.decreases-loop-routes
decreases-loop-routes g l = length (all_legs l.laid_out.layout) - l.at
