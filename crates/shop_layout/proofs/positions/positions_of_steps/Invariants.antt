use Rattle.std.proofs.Common.{◌≡◌, ℕ, ◌<◌, [], length, get_or, map}
use Rattle.shop_model.specs.Shop.{route_of}
use Rattle.shop_layout.specs.inner.Layings.{AreStepPositions}
use Rattle.shop_layout.proofs.positions.positions_of_steps.Given as goal

abbrev pub invariant-loop-j : goal.invariant-loop-j
invariant-loop-j l = record {
  jobs : length (map (λ v. v.items) l.step_positions.items) ≡ l.j;
  routes : (j : ℕ) → j < l.j → length (get_or (map (λ v. v.items) l.step_positions.items) j [])
      ≡ length (route_of l.instance j);
}

abbrev pub invariant-loop-m : goal.invariant-loop-m
invariant-loop-m l =
    AreStepPositions l.instance (map (λ v. v.items) l.lists) l.blocks l.m (map (λ v. v.items) l.step_positions.items)
