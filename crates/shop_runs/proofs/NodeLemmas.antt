-- Nodes against their words: bounds, their order by bound, and what is below a makespan.
use Rattle.std.proofs.{Common.{arith, ◌≡◌, ℕ, min, List, [], ◌∷◌, refl, ap, leb, ltb}, lemmas.Bool.cases_Bool}
use Rattle.std.{proofs.lemmas.List.Elements.recursion_from_All, specs.List.AllByRecursion}
use Rattle.shop_model.specs.Shop.{Shop}
use Rattle.shop_bound.specs.Bound.{lb}
use Rattle.shop_nodes.specs.{declared.nodes.Node.Node, Branching.insert_by, Nodes.{words_of, IsNode, AreNodes}}
use Rattle.shop_nodes.specs.inner.HeldNodes.{nodes_below}
use Rattle.shop_runs.specs.{Round.{words_below, least_bound}, inner.NodeLists.least_of_bounds}

module _ (shop : Shop) where
  least_by_recursion : (c : ℕ) (ns : List Node) → AllByRecursion (IsNode shop) ns
      → least_of_bounds c ns ≡ least_bound shop c (words_of ns)
  least_by_recursion c [] a = refl
  least_by_recursion c (n ∷ ns) a = grind (arith, least_by_recursion (min c (lb shop n.word)) ns a.1)

  pub least_is : (c : ℕ) (ns : List Node) → AreNodes shop ns → least_of_bounds c ns ≡ least_bound shop c (words_of ns)
  least_is c ns a = least_by_recursion c ns (recursion_from_All (IsNode shop) ns a)

  below_by_recursion : (c : ℕ) (ns : List Node) → AllByRecursion (IsNode shop) ns
      → words_of (nodes_below c ns) ≡ words_below shop c (words_of ns)
  below_by_recursion c [] a = refl
  below_by_recursion c (n ∷ ns) a =
      let same : ltb n.bound c ≡ ltb (lb shop n.word) c = ap (λ b. ltb b c) a.0.1
      in let rest = below_by_recursion c ns a.1
      in grind (arith, cases_Bool)

  pub below_is : (c : ℕ) (ns : List Node) → AreNodes shop ns
      → words_of (nodes_below c ns) ≡ words_below shop c (words_of ns)
  below_is c ns a = below_by_recursion c ns (recursion_from_All (IsNode shop) ns a)

  pub insert_words : (n : Node) (ns : List Node) → IsNode shop n → AllByRecursion (IsNode shop) ns
      → words_of (insert_by (λ m. m.bound) n ns) ≡ insert_by (lb shop) n.word (words_of ns)
  insert_words n [] p a = refl
  insert_words n (m ∷ ns) p a =
      let same : leb n.bound m.bound ≡ leb (lb shop n.word) (lb shop m.word) = (λ i. leb (p.1 i) (a.0.1 i))
      in let rest = insert_words n ns p a.1
      in grind (arith, cases_Bool)
