-- Nodes that a run keeps are below its makespan.
use Rattle.std.{proofs.{Common.{◌≡◌, ℕ, ◌≤◌, ◌<◌, List, [], ◌∷◌, refl, arith}, lemmas.Bool.lt-ltb}, specs.List.Contains}
use Rattle.std.{proofs.lemmas.List.Elements.{recursion_from_All, All-from_recursion}, specs.List.AllByRecursion}
use Rattle.shop_model.specs.Shop.{Shop}
use Rattle.shop_bound.specs.Bound.{lb}
use Rattle.shop_nodes.specs.{declared.nodes.Node.Node, Nodes.{words_of, IsNode, AreNodes}, inner.HeldNodes.nodes_below}
use Rattle.shop_nodes.proofs.Members.{all_contains}
use Rattle.shop_runs.specs.inner.NodeLists.{AreBelow}

-- where all are below a makespan, those below a greater one are all
same_below : (c d : ℕ) (ns : List Node) → c ≤ d → AllByRecursion (λ n. n.bound < c) ns → nodes_below d ns ≡ ns
same_below c d [] le low = refl
same_below c d (n ∷ ns) le low = grind (arith, lt-ltb, same_below c d ns le low.1)

pub none_closed : (c d : ℕ) (ns : List Node) → c ≤ d → AreBelow c ns → nodes_below d ns ≡ ns
none_closed c d ns le low = same_below c d ns le (recursion_from_All (λ n. n.bound < c) ns low)

module _ (shop : Shop) where
  below_words : (c : ℕ) (ns : List Node) → AllByRecursion (IsNode shop) ns
      → AllByRecursion (λ w. lb shop w < c) (words_of ns) → AllByRecursion (λ n. n.bound < c) ns
  below_words c [] a low = tt
  below_words c (n ∷ ns) a low = ((let e = a.0.1 in let b = low.0 in omega arith), below_words c ns a.1 low.1)

  -- the open nodes of a standing are below its makespan
  pub all_below : (c : ℕ) (ns : List Node) → AreNodes shop ns
      → ((w : List ℕ) → Contains (words_of ns) w → lb shop w < c) → AreBelow c ns
  all_below c ns a low = All-from_recursion (λ n. n.bound < c) ns
      (below_words c ns (recursion_from_All (IsNode shop) ns a)
      (all_contains (λ w. lb shop w < c) (words_of ns) low))
