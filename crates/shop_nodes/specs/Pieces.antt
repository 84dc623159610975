-- The search of a piece of nodes.
--     walk_told found best left budget  what a walk carries
--     words_below shop c words          the words of bounds below c
--     IsSheet shop piece best budget found makespan left taken
--                                       what was found, the makespan, the words left and how many nodes were taken are
--                                       the sheet of the piece's words
use Rattle.std.specs.Prelude.{◌≡◌, ℕ, ◌-◌, Option, List, filter, nat_lt}
use Rattle.shop_model.specs.Shop.{Shop}
use Rattle.shop_bound.specs.Bound.{lb}
use Rattle.shop_nodes.specs.{Nodes.words_of, Walking.{Walk, sheet}, declared.pieces.Piece.Piece}

abbrev pub walk_told : Option (List ℕ) → ℕ → List (List ℕ) → ℕ → Walk
walk_told found best left budget = record { found = found; best = best; left = left; budget = budget }

abbrev pub words_below : Shop → ℕ → List (List ℕ) → List (List ℕ)
words_below shop c ws = filter (λ w. nat_lt (lb shop w) c) ws

abbrev pub IsSheet : Shop → Piece → ℕ → ℕ → Option (List ℕ) → ℕ → List (List ℕ) → ℕ → Type 0
IsSheet shop piece best budget found makespan left taken =
    walk_told found makespan left (budget - taken) ≡ sheet shop (words_of piece.nodes.items) best budget
