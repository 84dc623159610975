-- The least head from a number on, block by block.
use Rattle.std.proofs.Common.{arith, ◌≡◌, ℕ, ◌+◌, ◌*◌, ◌≤◌, min, List, [], ◌∷◌, map, take, drop}
use Rattle.std.proofs.{lemmas.Bool.Decides.nat_tests, lemmas.List.{take-map, drop-map}}
use Rattle.shop_lanes.specs.{Eights.ahead_of, Folds.least_up_to, inner.LaterHeads.least_later}

-- a block of a row: how far its numbers lie ahead
pub ahead_block : (top from from' b : ℕ) (row block ahead : List ℕ) → from' ≡ from
    → block ≡ take 8 (drop (8 * b) row) → ahead ≡ map (ahead_of top from') block
    → ahead ≡ take 8 (drop (8 * b) (map (ahead_of top from) row))
ahead_block top from from' b row block ahead ef e f = grind (arith, drop-map, take-map)

-- the nearest number ahead is the least that is no lesser
pub nearest_is_least : (top from : ℕ) (hs : List ℕ) → from ≤ top
    → min (from + least_up_to top (map (ahead_of top from) hs)) top ≡ least_later top from hs
nearest_is_least top from [] le = omega arith
nearest_is_least top from (h ∷ hs) le = grind (arith, nat_tests, nearest_is_least top from hs le)
