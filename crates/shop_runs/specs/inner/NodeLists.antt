-- Lists of nodes: their least bound, a limit of their bounds, and those of pieces.
use Rattle.std.specs.Prelude.{ℕ, ◌<◌, min, List, All, map, fold}
use Rattle.shop_nodes.specs.{declared.nodes.Node.Node, declared.pieces.Piece.Piece}

-- the least of a makespan and the bounds that nodes hold
abbrev pub least_of_bounds : ℕ → List Node → ℕ
least_of_bounds makespan nodes = fold (λ b n. min b n.bound) makespan nodes

-- all hold bounds below c
abbrev pub AreBelow : ℕ → List Node → Type 0
AreBelow c nodes = All (λ n. n.bound < c) nodes

-- the nodes of each piece
abbrev pub nodes_in : List Piece → List (List Node)
nodes_in pieces = map (λ p. p.nodes.items) pieces
