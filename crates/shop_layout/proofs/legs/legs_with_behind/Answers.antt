use Rattle.std.{proofs.Common.{◌≡◌, ◌∙◌, ℕ, ◌<◌, ◌^◌, List, ap, arith, length, sym}, specs.List.{All, flat_map}}
use Rattle.shop_model.specs.{Limits.IsWithinLimits, Shop.Shop}
use Rattle.shop_layout.specs.{Legs.{all_legs, route_legs}, Positions.{IsLaidOut, LayoutState}}
use Rattle.shop_layout.specs.{declared.legs.Leg.Leg, inner.Vectors.items_in}
use Rattle.shop_layout.specs.inner.RouteRows.{AreBehind, AreBelow, AreFirsts, IsBehind}
use Rattle.shop_layout.proofs.RouteLegs.{behind_is, jobs_below, machines_below, times_below}
use Rattle.shop_layout.proofs.legs.legs_with_behind.Goals as goal

-- the rows of a layout, as they were lent
module _ {l : LayoutState} {shop : Shop} (limits : IsWithinLimits shop) (laid : IsLaidOut shop l) where
  lent_machines : {machines : List ℕ} {rows : List (List ℕ)} → machines ≡ l.machines → rows ≡ l.step_positions
      → All (AreBelow (length machines)) rows
  lent_machines e f = rw (e, f) (machines_below shop limits l laid)

  lent_route_times : {times : List ℕ} {rows : List (List ℕ)} → times ≡ l.times → rows ≡ l.step_positions
      → All (AreBelow (length times)) rows
  lent_route_times e f = rw (e, f) (times_below shop limits l laid)

  lent_jobs : {jobs : List ℕ} (firsts : List ℕ) {rows : List (List ℕ)} → jobs ≡ l.jobs → rows ≡ l.step_positions
      → length firsts ≡ length rows → AreBelow (length firsts) jobs
  lent_jobs firsts e f long = rw (long, f, e) (jobs_below shop limits l laid)

-- the legs of all routes, made of rows that were lent, and where those behind each operation begin
made : {l : LayoutState} {machines times jobs steps lent firsts behind : List ℕ} {rows : List (List ℕ)} {end : ℕ}
    {legs : List Leg} → machines ≡ l.machines → times ≡ l.times → end ≡ length l.jobs → rows ≡ l.step_positions
    → jobs ≡ l.jobs → steps ≡ l.steps → lent ≡ firsts → length legs < 2 ^ 64
    → legs ≡ flat_map (route_legs machines times end) rows → AreFirsts (route_legs machines times end) rows firsts
    → AreBehind jobs steps lent behind → (legs ≡ all_legs l) × IsBehind l behind
made {l} {legs = legs} m t e r j s f few is begin are = grind (arith, behind_is)

pub legs_of-requires-clause-machines : goal.legs_of-requires-clause-machines
legs_of-requires-clause-machines c = lent_machines c.requires.1 c.requires.2
    (c.as_slice-machines.ensures.value ∙ ap (λ (x : LayoutState). x.machines) c.positions.view_is)
    (ap items_in c.as_slice-step_positions.ensures.value
    ∙ ap (λ (x : LayoutState). x.step_positions) c.positions.view_is)

pub legs_of-requires-clause-times : goal.legs_of-requires-clause-times
legs_of-requires-clause-times c = lent_route_times c.requires.1 c.requires.2
    (c.as_slice-times.ensures.value ∙ ap (λ (x : LayoutState). x.times) c.positions.view_is)
    (ap items_in c.as_slice-step_positions.ensures.value
    ∙ ap (λ (x : LayoutState). x.step_positions) c.positions.view_is)

pub behind_of-requires-clause-jobs : goal.behind_of-requires-clause-jobs
behind_of-requires-clause-jobs c = lent_jobs c.requires.1 c.requires.2 _
    (c.as_slice-jobs.ensures.value ∙ ap (λ (x : LayoutState). x.jobs) c.positions.view_is)
    (ap items_in c.as_slice-step_positions.ensures.value
    ∙ ap (λ (x : LayoutState). x.step_positions) c.positions.view_is)
    (ap length c.as_slice.ensures.value ∙ c.in_ok-legs.ensures.firsts.long)

pub behind_of-requires-clause-steps : goal.behind_of-requires-clause-steps
behind_of-requires-clause-steps c =
    let laid = c.requires.2.positions
    in ap length (c.as_slice-steps.ensures.value ∙ ap (λ (x : LayoutState). x.steps) c.positions.view_is)
    ∙ (laid.steps
    ∙ sym (ap length (c.as_slice-jobs.ensures.value ∙ ap (λ (x : LayoutState). x.jobs) c.positions.view_is)
    ∙ laid.jobs))

pub returns : goal.returns
returns c =
    let rows = made (c.as_slice-machines.ensures.value ∙ ap (λ (x : LayoutState). x.machines) c.positions.view_is)
    (c.as_slice-times.ensures.value ∙ ap (λ (x : LayoutState). x.times) c.positions.view_is)
    (ap length (c.as_slice-jobs.ensures.value ∙ ap (λ (x : LayoutState). x.jobs) c.positions.view_is))
    (ap items_in c.as_slice-step_positions.ensures.value
    ∙ ap (λ (x : LayoutState). x.step_positions) c.positions.view_is)
    (c.as_slice-jobs.ensures.value ∙ ap (λ (x : LayoutState). x.jobs) c.positions.view_is)
    (c.as_slice-steps.ensures.value ∙ ap (λ (x : LayoutState). x.steps) c.positions.view_is)
    c.as_slice.ensures.value
    (let room = c.in_ok-legs.legs.small in let full = c.in_ok-legs.legs.ok.0 in omega arith)
    c.in_ok-legs.ensures.legs c.in_ok-legs.ensures.firsts c.in_ok-behind.ensures
    in record { legs = rows.0; behind = rows.1 }
