-- Words left, as open nodes.
use Rattle.std.proofs.{Common.{arith, ◌≡◌, ℕ, List, [], ◌∷◌, refl}, lemmas.Bool.cases_Bool}
use Rattle.std.{proofs.lemmas.List.Elements.All-from_recursion, specs.List.AllByRecursion}
use Rattle.shop_model.specs.{Shop.Shop, Word.IsWord}
use Rattle.shop_nodes.specs.{Laws.AreWords, Left.open_nodes, Nodes.{words_of, IsNode, AreNodes}, Pieces.words_below}
use Rattle.shop_nodes.proofs.Members.{all_contains}

pub words_open : (shop : Shop) (c : ℕ) (ws : List (List ℕ)) → words_of (open_nodes shop c ws) ≡ words_below shop c ws
words_open shop c [] = refl
words_open shop c (w ∷ ws) = grind (arith, cases_Bool, words_open shop c ws)

each_open : (shop : Shop) (c : ℕ) (ws : List (List ℕ)) → AllByRecursion (IsWord shop) ws
    → AllByRecursion (IsNode shop) (open_nodes shop c ws)
each_open shop c [] are = tt
each_open shop c (w ∷ ws) are = grind (arith, cases_Bool, each_open shop c ws are.1)

pub nodes_open : (shop : Shop) (c : ℕ) (ws : List (List ℕ)) → AreWords shop ws → AreNodes shop (open_nodes shop c ws)
nodes_open shop c ws are = All-from_recursion (IsNode shop) (open_nodes shop c ws)
    (each_open shop c ws (all_contains (IsWord shop) ws are))
