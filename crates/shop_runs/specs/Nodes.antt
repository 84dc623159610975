-- A round as contracts see it, by its fields.
use Rattle.std.specs.Prelude.{ℕ, ◌+◌, ◌&&◌, Bool, true, List, [], ◌∷◌, map, All, ◌==◌}
use Rattle.shop_model.specs.Shop.{Shop}
use Rattle.shop_nodes.specs.{Nodes.{words_of, AreNodes}, declared.nodes.Node.Node, declared.pieces.Piece.Piece}
use Rattle.shop_runs.specs.Round.{Told}

-- the words of each piece
abbrev pub pieces_in : List Piece → List (List (List ℕ))
pieces_in pieces = map (λ p. words_of p.nodes.items) pieces

-- all nodes of the pieces are nodes of the instance
abbrev pub ArePieces : Shop → List Piece → Type 0
ArePieces shop pieces = All (λ p. AreNodes shop p.nodes.items) pieces

-- the pieces are numbered in order, from k on
abbrev pub numbered : ℕ → List Piece → Bool
numbered k [] = true
numbered k (p ∷ ps) = (p.number == k) && numbered (k + 1) ps

-- a round of these fields, as definitions speak of it
abbrev pub told_of : Shop → List ℕ → ℕ → ℕ → ℕ → List Piece → List Node → ℕ → ℕ → Told
told_of shop word best bound budget pieces rest rounds nodes = record {
  shop = shop;
  word = word;
  best = best;
  bound = bound;
  budget = budget;
  pieces = pieces_in pieces;
  rest = words_of rest;
  rounds = rounds;
  nodes = nodes;
}
