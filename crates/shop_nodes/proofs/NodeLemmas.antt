-- The words of lists of nodes.
use Rattle.std.{proofs.{Common.{List, [], ◌∷◌}, lemmas.List.Elements.recursion_from_All}, specs.List.AllByRecursion}
use Rattle.shop_model.specs.{Word.IsWord, Shop.Shop}
use Rattle.shop_nodes.specs.{Laws.AreWords, Nodes.{words_of, IsNode, AreNodes}, declared.nodes.Node.Node}
use Rattle.shop_nodes.proofs.Members.{contains_all}

-- the words of nodes are words of the instance
words_from : (shop : Shop) (nodes : List Node) → AllByRecursion (IsNode shop) nodes
    → AllByRecursion (IsWord shop) (words_of nodes)
words_from shop [] all = tt
words_from shop (node ∷ nodes) all = (all.0.0, words_from shop nodes all.1)

pub are_words : (shop : Shop) (nodes : List Node) → AreNodes shop nodes → AreWords shop (words_of nodes)
are_words shop nodes all =
    contains_all (IsWord shop) (words_of nodes) (words_from shop nodes (recursion_from_All (IsNode shop) nodes all))
