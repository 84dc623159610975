-- What the search of a piece left.
--     Leaving                   the instance, the makespan, and the words left, in order
--     left_words shop h nodes   the words of what was pending where a walk halted, and of these nodes
--     AreLeft shop best h nodes what was pending is told rightly, and the nodes are nodes
--     open_nodes shop c ws      the words of bounds below c as nodes, in order
use Rattle.std.specs.Prelude.{ℕ, Option, List, ◌++◌, map}
use Rattle.shop_model.specs.Shop.{Shop}
use Rattle.shop_bound.specs.Bound.{lb}
use Rattle.shop_nodes.specs.{Halts.{halted_words, AreHalted}, Nodes.{words_of, AreNodes}, Pieces.words_below}
use Rattle.shop_nodes.specs.{declared.halts.Halt.Halt, declared.nodes.Node.Node}

pub record Leaving : Type 0 where
  pub shop : Shop
  pub makespan : ℕ
  pub words : List (List ℕ)

abbrev pub left_words : Shop → Option Halt → List Node → List (List ℕ)
left_words shop h nodes = halted_words shop h ++ words_of nodes

abbrev pub AreLeft : Shop → ℕ → Option Halt → List Node → Type 0
AreLeft shop best h nodes = AreHalted shop best h × AreNodes shop nodes

abbrev pub open_nodes : Shop → ℕ → List (List ℕ) → List Node
open_nodes shop c ws = map (λ w. record { word = w; bound = lb shop w }) (words_below shop c ws)
