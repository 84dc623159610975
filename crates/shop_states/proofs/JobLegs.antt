-- The legs of a job's route, in the layout of its instance.
use Rattle.std.proofs.Common.{rules, ◌≡◌, ℕ, zero, suc, ◌+◌, ◌*◌, ◌≤◌, ◌<◌, List, [], ◌∷◌, length, get_or, map, take}
use Rattle.std.proofs.{Common.{sym, ◌∙◌, ap, arith}, lemmas.{Bool.cases_lt, List.{flat_map_more, length-append}}}
use Rattle.std.{proofs.lemmas.List.{length-map, take_more}, specs.List.flat_map}
use Rattle.shop_model.specs.{Limits.IsWithinLimits, Shop.{Shop, machine_of, route_of, time_of}}
use Rattle.shop_layout.specs.{declared.legs.Leg.Leg, Legs.{all_legs, end_of, leg_index, leg_of, route_legs}}
use Rattle.shop_layout.specs.Positions.{IsLaidOut, LayoutState, first_position, position_of, position_or}
use Rattle.shop_layout.proofs.{LaidPositions.is_position_of, RouteLegs.{index_known, leg_behind, leg_here}}
use Rattle.shop_states.proofs.Followed.{position_or-past, position_or-there}

-- leg k of job j is that of its step k
pub record IsLegOf (shop : Shop) (l : LayoutState) (j k : ℕ) (leg : Leg) : Type 0 where
  pub position : leg.position ≡ position_of l j k
  pub machine : leg.machine ≡ machine_of shop j k
  pub time : leg.time ≡ time_of shop j k

module _ (l : LayoutState) where
  abbrev legs_on : List ℕ → List Leg
  legs_on = route_legs l.machines l.times (length l.jobs)

  -- the legs of the next job begin behind the end of the route
  pub next_first : (j : ℕ) → j < length l.step_positions
      → leg_index l (j + 1) 0 ≡ leg_index l j 0 + (length (get_or l.step_positions j []) + 1)
  next_first j known =
      let positions = get_or l.step_positions j []
      in let long : length (legs_on positions) ≡ length positions + 1 =
      length-append (map (leg_of l.machines l.times) positions) (end_of (length l.jobs) ∷ [])
      ∙ ap (λ (n : ℕ). n + 1) (length-map positions (leg_of l.machines l.times))
      in let more : length (flat_map legs_on (take (j + 1) l.step_positions))
      ≡ length (flat_map legs_on (take j l.step_positions)) + length (legs_on positions) =
      ap (λ (rows : List (List ℕ)). length (flat_map legs_on rows)) (take_more l.step_positions j [] known)
      ∙ (ap length (sym (flat_map_more legs_on [] (take j l.step_positions) positions))
      ∙ length-append (flat_map legs_on (take j l.step_positions)) (legs_on positions))
      in omega arith

  first_few : ((j : ℕ) → length (get_or l.step_positions j []) ≤ 100) → (j : ℕ) → j ≤ length l.step_positions
      → leg_index l j 0 ≤ 101 * j
  first_few few zero known = omega arith
  first_few few (suc j) known =
      let before = first_few few j (omega arith)
      in let more = next_first j (omega arith)
      in let most = few j
      in let one_more : suc j ≡ j + 1 = omega arith
      in let same : leg_index l (suc j) 0 ≡ leg_index l (j + 1) 0 = ap (λ (i : ℕ). leg_index l i 0) one_more
      in omega arith

module _ {shop : Shop} (limits : IsWithinLimits shop) {l : LayoutState} (laid : IsLaidOut shop l) where
  pub first_small : (j : ℕ) → j ≤ length shop.jobs → leg_index l j 0 < 200000
  first_small j known = grind (arith, first_few)

  module _ (j : ℕ) (known : j < length shop.jobs) (k : ℕ) (within : k ≤ length (route_of shop j)) where
    pub leg_small : leg_index l j k < 300000
    leg_small = let a = first_small j (omega arith) in let b = limits.routes j in omega arith

    pub leg_known : leg_index l j k < length (all_legs l)
    leg_known = let jobs = laid.jobs in let route = laid.routes j in index_known l j (omega arith) k (omega arith)

    -- it is read from rows that are those of the layout
    module _ {read : LayoutState} (same : read ≡ l) {index : ℕ} (at : index ≡ leg_index l j k) where
      pub index_there : index < length (all_legs read)
      index_there = let a = leg_known in let b = ap (λ (x : LayoutState). length (all_legs x)) same in omega arith

      module _ {leg : Leg} (is : leg ≡ get_or (all_legs read) index (end_of 0)) where
        found : leg ≡ get_or (all_legs l) (leg_index l j k) (end_of 0)
        found = grind arith

        pub leg_is : k < length (route_of shop j) → IsLegOf shop l j k leg
        leg_is op =
            let jobs = laid.jobs
            in let route = laid.routes j
            in let here : leg ≡ leg_of l.machines l.times (position_of l j k) =
            found ∙ leg_here l j (omega arith) k (end_of 0) (omega arith)
            in let a = is_position_of shop limits l laid j k op
            in let from = a.from in let to = a.to
            in record {
              position = ap (λ (x : Leg). x.position) here;
              machine = ap (λ (x : Leg). x.machine) here
                  ∙ laid.machines_at.at (machine_of shop j k) (position_of l j k) (limits.on_machines j k) (omega arith)
                  (omega arith);
              time = ap (λ (x : Leg). x.time) here ∙ a.time;
            }

        end_there : length (route_of shop j) ≤ k → leg.position ≡ first_position l shop.machines
        end_there past = grind (arith, found, leg_behind)

        pub leg_position_is : leg.position ≡ position_or (first_position l shop.machines) l.step_positions j k
        leg_position_is = grind (arith, cases_lt, leg_is, position_or-there, end_there, position_or-past)

        pub step_there : {n : ℕ} → n ≡ length l.jobs → leg.position < n → k < length (route_of shop j)
        step_there count below = grind (arith, cases_lt, end_there)

        pub step_past : {n : ℕ} → n ≡ length l.jobs → n ≤ leg.position → length (route_of shop j) ≤ k
        step_past count above = search (rules, cases_lt, leg_is, is_position_of)
