-- Nodes that are put into a store or counted, one after the other from the last to the first.
use Rattle.std.proofs.Common.{◌≡◌, ℕ, ◌+◌, ◌-◌, ◌<◌, ◌≤◌, min, List, [], ◌++◌, length, take, get_or, refl, sym, ◌∙◌}
use Rattle.std.proofs.Common.{ap, subst, arith, ltb, ◌∷◌}
use Rattle.std.proofs.{Common.append-nil, lemmas.List.{take_more, Elements.filter-append}}
use Rattle.shop_nodes.specs.{declared.nodes.Node.Node, inner.HeldNodes.nodes_below}
use Rattle.shop_runs.specs.declared.{distant_nodes.DistantNodes.DistantNodes, open_nodes.OpenNodes.OpenNodes}
use Rattle.shop_runs.specs.{declared.plans.Order.TheVariants.Kept, inner.Distant.{count_of, nodes_within, AreAdded}}
use Rattle.shop_runs.specs.inner.{Distant.{IsCountable, FitBelow, ArePutOrCounted}, Stacks.put_all_before}
use Rattle.shop_runs.specs.inner.Stores.{open_list, order_of}
use Rattle.shop_runs.proofs.{DistantLemmas.{count_append, within_append, within_both, none_within}}
use Rattle.shop_runs.proofs.{StoreLemmas.put_append}
use Rattle.shop_runs.proofs.StoreLemmas.{below_both}

-- with the rest of the nodes, store and counts come to what they came to at first with all
pub record IsLeftToPut (c : ℕ) (all : List Node) (store : OpenNodes) (distant : DistantNodes) (rest : List Node)
    (now : OpenNodes) (counts : DistantNodes) : Type 0 where
  pub order : order_of now ≡ order_of store
  pub horizon : counts.horizon ≡ distant.horizon
  pub put : put_all_before (order_of store) (nodes_below (min c distant.horizon) rest) (open_list now)
      ≡ put_all_before (order_of store) (nodes_below (min c distant.horizon) all) (open_list store)
  pub counted : (b : ℕ) → get_or counts.counts.items b 0 + count_of b (nodes_within distant.horizon c rest)
      ≡ get_or distant.counts.items b 0 + count_of b (nodes_within distant.horizon c all)

module _ (c : ℕ) (all : List Node) (store : OpenNodes) (distant : DistantNodes) where
  pub all_left : IsLeftToPut c all store distant all store distant
  all_left = record { order = refl; horizon = refl; put = refl; counted = λ b. refl }

  -- the last part is put or counted
  pub part_put : (rest part : List Node) (now later : OpenNodes) (counts more : DistantNodes)
      → IsLeftToPut c all store distant (rest ++ part) now counts
      → ArePutOrCounted c part now counts later more → IsLeftToPut c all store distant rest later more
  part_put rest part now later counts more left step = record {
    order = step.put.0 ∙ left.order;
    horizon = step.horizon ∙ left.horizon;
    put = (λ i. put_all_before (order_of store) (nodes_below (min c distant.horizon) rest) (here i))
        ∙ (sym (put_append (order_of store) (nodes_below (min c distant.horizon) rest)
        (nodes_below (min c distant.horizon) part) (open_list now))
        ∙ (sym (ap (λ ns. put_all_before (order_of store) ns (open_list now))
        (filter-append (λ (n : Node). ltb n.bound (min c distant.horizon)) rest part)) ∙ left.put));
    counted = λ b. (let e = left.counted b
        in let f = subst (λ h. AreAdded (nodes_within h c part) counts.counts.items more.counts.items) left.horizon
        step.counted b
        in let g = ap (count_of b) (within_append distant.horizon c rest part)
        ∙ count_append b (nodes_within distant.horizon c rest) (nodes_within distant.horizon c part)
        in omega arith);
  }
    where
      here : open_list later
          ≡ put_all_before (order_of store) (nodes_below (min c distant.horizon) part) (open_list now)
      here = step.put.1
          ∙ (λ i. put_all_before (left.order i) (nodes_below (min c (left.horizon i)) part) (open_list now))

  -- if all fit, so does the part that is next
  pub part_fits : (rest part : List Node) (now : OpenNodes) (counts : DistantNodes) → FitBelow c all distant
      → IsLeftToPut c all store distant (rest ++ part) now counts → FitBelow c part counts
  part_fits rest part now counts fits left = λ b. (
      let e = left.counted b
      in let f = fits b
      in let g = ap (count_of b) (within_append distant.horizon c rest part)
      ∙ count_append b (nodes_within distant.horizon c rest) (nodes_within distant.horizon c part)
      in let h = ap (λ k. count_of b (nodes_within k c part)) left.horizon
      in omega arith
      )

  pub all_put : (now : OpenNodes) (counts : DistantNodes) → IsLeftToPut c all store distant [] now counts
      → ArePutOrCounted c all store distant now counts
  all_put now counts left = record {
    put = (left.order, left.put);
    horizon = left.horizon;
    counted = λ b. (let e = left.counted b in omega arith);
  }

-- of what a search left, only what is below its own makespan is open
pub own_put : (c own : ℕ) (nodes : List Node) (store after : OpenNodes) (distant later : DistantNodes)
    → ArePutOrCounted (min c own) nodes store distant after later
    → ArePutOrCounted c (nodes_below own nodes) store distant after later
own_put c own nodes store after distant later put =
    let limits : min (min c own) distant.horizon ≡ min (min c distant.horizon) own = omega arith
    in record {
      put = (
        put.put.0,
        put.put.1 ∙ ap (λ ns. put_all_before (order_of store) ns (open_list store))
            (ap (λ m. nodes_below m nodes) limits ∙ sym (below_both (min c distant.horizon) own nodes)),
      );
      horizon = put.horizon;
      counted = subst (λ ns. AreAdded ns distant.counts.items later.counts.items)
          (sym (within_both distant.horizon c own nodes)) put.counted;
    }

-- the last of the first nodes
pub last_taken : (ns : List Node) (k : ℕ) (n : Node) → 0 < k → k ≤ length ns → n ≡ get_or ns (k - 1) n
    → take k ns ≡ take (k - 1) ns ++ n ∷ []
last_taken ns k n some within is =
    let one : k ≡ k - 1 + 1 = omega arith
    in ap (λ m. take m ns) one
    ∙ (take_more ns (k - 1) n (omega arith) ∙ ap (λ m. take (k - 1) ns ++ m ∷ []) (sym is))

pub own_fits : (c own : ℕ) (nodes : List Node) (distant : DistantNodes) → FitBelow c (nodes_below own nodes) distant
    → FitBelow (min c own) nodes distant
own_fits c own nodes distant fits =
    λ b. subst (λ ns. IsCountable b (count_of b ns) distant.counts.items) (within_both distant.horizon c own nodes)
    (fits b)

-- where no node is counted all fit
pub none_fit : (c : ℕ) (nodes : List Node) (distant : DistantNodes) → c ≤ distant.horizon
    → ((b : ℕ) → get_or distant.counts.items b 0 ≡ 0) → FitBelow c nodes distant
none_fit c nodes distant near none = λ b. (
    let e = none b
    in let f = ap (count_of b) (none_within distant.horizon c nodes near)
    in omega arith
    )

put_kept : (ns nodes : List Node) → put_all_before Kept ns nodes ≡ ns ++ nodes
put_kept [] nodes = refl
put_kept (n ∷ ns) nodes = ap (λ ms. n ∷ ms) (put_kept ns nodes)

-- where none is distant, what searches left and the rest are put into an empty store, one before the other
pub all_gathered : (c : ℕ) (left rest : List Node) (empty some store : OpenNodes) (first second third : DistantNodes)
    → open_list empty ≡ [] → order_of empty ≡ Kept → first.horizon ≡ c
    → ArePutOrCounted c rest empty first some second → ArePutOrCounted c left some second store third
    → open_list store ≡ nodes_below c (left ++ rest)
all_gathered c left rest empty some store first second third none kept horizon put more =
    let low : min c first.horizon ≡ c = omega arith
    in let later = put.horizon
    in let low' : min c second.horizon ≡ c = omega arith
    in let own : open_list some ≡ nodes_below c rest =
    put.put.1 ∙ ((λ i. put_all_before (kept i) (nodes_below (low i) rest) (none i))
    ∙ (put_kept (nodes_below c rest) [] ∙ append-nil (nodes_below c rest)))
    in more.put.1 ∙ ((λ i. put_all_before ((put.put.0 ∙ kept) i) (nodes_below (low' i) left) (own i))
    ∙ (put_kept (nodes_below c left) (nodes_below c rest)
    ∙ sym (filter-append (λ (n : Node). ltb n.bound c) left rest)))
