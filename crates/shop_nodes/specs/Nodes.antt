-- Nodes and pieces as the words that they hold.
--     words_of nodes                     the words of the nodes
--     IsNode shop node                   its word is one of the instance, and it holds its word's bound
--     AreNodes shop nodes                each is a node of the instance
--     AreBetterChildren shop node nodes  each table under the node's word has one under the word of some of these nodes
--                                        that ends no later
use Rattle.std.specs.Prelude.{◌≡◌, ℕ, List, map, All}
use Rattle.shop_model.specs.{Shop.Shop, Word.IsWord}
use Rattle.shop_bound.specs.Bound.{lb}
use Rattle.shop_nodes.specs.{Laws.HaveBetterChildren, declared.nodes.Node.Node}

abbrev pub words_of : List Node → List (List ℕ)
words_of nodes = map (λ n. n.word) nodes

abbrev pub IsNode : Shop → Node → Type 0
IsNode shop node = IsWord shop node.word × (node.bound ≡ lb shop node.word)

abbrev pub AreNodes : Shop → List Node → Type 0
AreNodes shop nodes = All (IsNode shop) nodes

abbrev pub AreBetterChildren : Shop → Node → List Node → Type 0
AreBetterChildren shop node children = HaveBetterChildren shop node.word (words_of children)
