-- The legs of all routes, and where those of each route stand among them.
use Rattle.std.proofs.Common.{◌≡◌, ℕ, ◌+◌, ◌*◌, ◌^◌, ◌≤◌, ◌<◌, List, [], ◌∷◌, ◌++◌, drop, get_or, length, map, take}
use Rattle.std.proofs.{Common.{sym, ◌∙◌, ap, arith, rules}, lemmas.{List.flat_map_more}}
use Rattle.std.proofs.lemmas.List.{get_or_append_left, get_or-map, get_or_default, get_or_push, length-append}
use Rattle.std.proofs.lemmas.List.{length-map, take-append-drop, take_more, Concat.{flat_map-append, get_or-flat_map}}
use Rattle.std.specs.{List.{All, flat_map}, Prelude.Vec, declared.alloc.Global.Global}
use Rattle.shop_model.specs.{Limits.IsWithinLimits, Shop.{Shop, route_of}}
use Rattle.shop_layout.specs.{declared.legs.Leg.Leg, Legs.{all_legs, end_of, leg_index, leg_of, route_legs}}
use Rattle.shop_layout.specs.{Positions.{IsLaidOut, LayoutState, position_of}, inner.RouteRows.{AreBehind, AreBelow}}
use Rattle.shop_layout.{specs.inner.RouteRows.{AreFirsts, IsBehind}, proofs.LaidPositions.is_position_of}

module _ (rows : List (Vec ℕ Global)) (j : ℕ) (row : Vec ℕ Global) (positions : List ℕ) (here : j < length rows)
    (is : row ≡ get_or rows j row) (read : positions ≡ row.items) where
  abbrev all : List (List ℕ)
  all = map (λ v. v.items) rows

  there : get_or all j [] ≡ row.items
  there = get_or-map (λ v. v.items) rows j row [] here ∙ ap (λ v. v.items) (sym is)

  -- a row of positions, as it was read
  pub row_below : (n : ℕ) → All (AreBelow n) (map (λ v. v.items) rows) → AreBelow n positions
  row_below n below = grind (arith, there, length-map)

  -- the legs of one more row
  pub legs_more : (f : List ℕ → List Leg) {old new : List Leg} → old ≡ flat_map f (take j (map (λ v. v.items) rows))
      → new ≡ old ++ f positions → new ≡ flat_map f (take (j + 1) (map (λ v. v.items) rows))
  legs_more f so_far added = search (rules, take_more, length-map, there, flat_map_more)

module _ (l : LayoutState) where
  abbrev legs_on : List ℕ → List Leg
  legs_on = route_legs l.machines l.times (length l.jobs)

  route_long : (positions : List ℕ) → length (legs_on positions) ≡ length positions + 1
  route_long positions = grind (arith, length-append, length-map)

  module _ (j : ℕ) (known : j < length l.step_positions) where
    abbrev positions : List ℕ
    positions = get_or l.step_positions j []

    -- the legs of a route stand among those of all
    pub index_known : (k : ℕ) → k ≤ length (get_or l.step_positions j []) → leg_index l j k < length (all_legs l)
    index_known k here =
        let long = route_long positions
        in let split : length (all_legs l) ≡ length (flat_map legs_on (take (j + 1) l.step_positions))
        + length (flat_map legs_on (drop (j + 1) l.step_positions)) =
        ap (λ (rows : List (List ℕ)). length (flat_map legs_on rows)) (sym (take-append-drop (j + 1) l.step_positions))
        ∙ (ap length (flat_map-append legs_on (take (j + 1) l.step_positions) (drop (j + 1) l.step_positions))
        ∙ length-append (flat_map legs_on (take (j + 1) l.step_positions))
        (flat_map legs_on (drop (j + 1) l.step_positions)))
        in let more : length (flat_map legs_on (take (j + 1) l.step_positions))
        ≡ length (flat_map legs_on (take j l.step_positions)) + length (legs_on positions) =
        ap (λ (rows : List (List ℕ)). length (flat_map legs_on rows)) (take_more l.step_positions j [] known)
        ∙ (ap length (sym (flat_map_more legs_on [] (take j l.step_positions) positions))
        ∙ length-append (flat_map legs_on (take j l.step_positions)) (legs_on positions))
        in omega arith

    pub leg_here : (k : ℕ) (d : Leg) → k < length (get_or l.step_positions j [])
        → get_or (all_legs l) (leg_index l j k) d ≡ leg_of l.machines l.times (position_of l j k)
    leg_here k d here =
        let long = route_long positions
        in get_or-flat_map legs_on l.step_positions j k [] d known (omega arith)
        ∙ (get_or_append_left (map (leg_of l.machines l.times) positions) (end_of (length l.jobs) ∷ []) d k
        (omega (arith, here, length-map positions (leg_of l.machines l.times)))
        ∙ get_or-map (leg_of l.machines l.times) positions k 0 d here)

    -- behind them stands the end of the route
    pub leg_behind : (k : ℕ) (d : Leg) → k ≡ length (get_or l.step_positions j [])
        → get_or (all_legs l) (leg_index l j k) d ≡ end_of (length l.jobs)
    leg_behind k d last =
        let long = route_long positions
        in get_or-flat_map legs_on l.step_positions j k [] d known (omega arith)
        ∙ get_or_push (map (leg_of l.machines l.times) positions) (end_of (length l.jobs)) d k
        (length-map positions (leg_of l.machines l.times) ∙ sym last)

  pub behind_is : {firsts behind : List ℕ}
      → AreFirsts (route_legs l.machines l.times (length l.jobs)) l.step_positions firsts
      → AreBehind l.jobs l.steps firsts behind → length (all_legs l) < 2 ^ 64 → IsBehind l behind
  behind_is {firsts} {behind} begin are small = grind (arith, index_known)

-- each step's position is below the number of positions
module _ (shop : Shop) (limits : IsWithinLimits shop) (l : LayoutState) (laid : IsLaidOut shop l) where
  step_positions_below : (n : ℕ) → n ≡ 8 * get_or l.blocks shop.machines 0 → All (AreBelow n) l.step_positions
  step_positions_below n many j d known k e here =
      let row : get_or l.step_positions j d ≡ get_or l.step_positions j [] =
      get_or_default l.step_positions j d [] known
      in let long : length (get_or l.step_positions j d) ≡ length (get_or l.step_positions j []) = ap length row
      in let routes = laid.routes j
      in let step : k < length (route_of shop j) = omega arith
      in let within = (is_position_of shop limits l laid j k step).within
      in let read : get_or (get_or l.step_positions j d) k e ≡ position_of l j k =
      get_or_default (get_or l.step_positions j d) k e 0 here ∙ ap (λ (xs : List ℕ). get_or xs k 0) row
      in omega arith

  pub machines_below : All (AreBelow (length l.machines)) l.step_positions
  machines_below = step_positions_below (length l.machines) laid.machines_at.positions

  pub times_below : All (AreBelow (length l.times)) l.step_positions
  times_below = step_positions_below (length l.times) laid.positions.times

  pub jobs_below : AreBelow (length l.step_positions) l.jobs
  jobs_below q d here = grind (arith, get_or_default)
