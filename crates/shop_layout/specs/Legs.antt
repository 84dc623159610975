-- The legs of all routes: position, machine and time of each step, route after route, and behind each route its end.
--     leg_of machines times q       the leg of the operation at position q
--     end_of n                      the end of a route, where there are n positions
--     route_legs machines times ..  the legs of a route whose steps stand at some positions, and its end
--     all_legs l                    those of all routes
--     leg_index l j k               where leg k of job j stands among them
use Rattle.std.specs.Prelude.{ℕ, ◌+◌, List, [], ◌∷◌, ◌++◌, flat_map, length, map, slice_index, take}
use Rattle.shop_layout.specs.{Positions.LayoutState, declared.legs.Leg.Leg}

abbrev pub leg_of : List ℕ → List ℕ → ℕ → Leg
leg_of machines times q = record { position = q; machine = slice_index machines q; time = slice_index times q }

abbrev pub end_of : ℕ → Leg
end_of n = record { position = n; machine = 0; time = 0 }

abbrev pub route_legs : List ℕ → List ℕ → ℕ → List ℕ → List Leg
route_legs machines times n positions = map (leg_of machines times) positions ++ end_of n ∷ []

abbrev pub all_legs : LayoutState → List Leg
all_legs l = flat_map (route_legs l.machines l.times (length l.jobs)) l.step_positions

abbrev pub leg_index : LayoutState → ℕ → ℕ → ℕ
leg_index l j k = length (flat_map (route_legs l.machines l.times (length l.jobs)) (take j l.step_positions)) + k
