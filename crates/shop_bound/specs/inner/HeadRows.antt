-- Heads and tails as rows of a program, one a job.
use Rattle.std.specs.{Prelude.{◌≡◌, ℕ, Option, length, map, List}, List.range_with_len}
use Rattle.shop_model.specs.{Shop.{Shop, route_of}, Word.Placing, Placements.{PlacementState, IsPlacement}}
use Rattle.shop_bound.specs.Heads.{head_if_left}

-- the row of job j
abbrev pub heads_of : Shop → Placing → ℕ → List (Option ℕ)
heads_of shop p j = map (head_if_left shop p j) (range_with_len 0 (length (route_of shop j)))

-- for every placing with these ends, the row has the heads of job j
abbrev pub AreHeadsOfJob : Shop → PlacementState → ℕ → List (Option ℕ) → Type 0
AreHeadsOfJob shop s j row = (p : Placing) → IsPlacement shop p s → row ≡ heads_of shop p j
