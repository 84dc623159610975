-- Runs that store the first of their open nodes, and count the others.
use Rattle.std.proofs.Common.{◌≡◌, ℕ, suc, ◌+◌, ◌-◌, ◌*◌, ◌≤◌, ◌<◌, ◌⊎◌, inl, inr, List, [], ◌∷◌, ◌++◌, length, drop}
use Rattle.std.proofs.{Common.{All, refl, sym, ◌∙◌, ap, subst, arith}, lemmas.List.{map-append, length-map}}
use Rattle.std.{proofs.lemmas.List.Elements.{recursion_from_All, All-from_recursion}, specs.List.AllByRecursion}
use Rattle.std.specs.List.{Contains}
use Rattle.shop_model.specs.{Shop.Shop, Word.IsWord}
use Rattle.shop_bound.specs.Bound.{lb}
use Rattle.shop_nodes.specs.{declared.nodes.Node.Node, Nodes.{words_of, IsNode, AreNodes}}
use Rattle.shop_nodes.proofs.Members.{all_contains, contains_all}
use Rattle.shop_runs.specs.declared.{plans.Order.{Order, TheVariants.{Kept, Bound}}, open_nodes.OpenNodes.OpenNodes}
use Rattle.shop_runs.specs.{declared.runs.OpenRun.OpenRun, Plans.Planned, Round.{Stand, in_order, makespan_of}}
use Rattle.shop_runs.specs.{Round.{least_bound, cut_into, cut_of}, Laws.IsStanding, inner.NodeLists.least_of_bounds}
use Rattle.shop_runs.specs.inner.Searches.{stand_of, with_all, in_full, most_left, IsSearchOf, IsRunAt, front_of}
use Rattle.shop_runs.{specs.inner.Stores.{open_list, order_of}, proofs.Cutting.{all_front, all_back}}
use Rattle.shop_runs.proofs.{DistantLists.{AreBefore, none_distant, first_of_all, least_near}, FrontLemmas.search_of}
use Rattle.shop_runs.proofs.{KeptBelow.all_below, NodeLemmas.least_is, PieceLemmas.cut_front, SortLemmas.Rises}
use Rattle.shop_runs.proofs.SortLemmas.{sort_rises, sort_fixed}

pub list_is : (o : Order) (ns : List Node) → open_list (with_all o ns) ≡ ns
list_is Kept ns = refl
list_is Bound ns = refl

pub order_is : (o : Order) (ns : List Node) → order_of (with_all o ns) ≡ o
order_is Kept ns = refl
order_is Bound ns = refl

rises_front : (shop : Shop) (ws vs : List (List ℕ)) → Rises (lb shop) (ws ++ vs) → Rises (lb shop) ws
rises_front shop [] vs r = tt
rises_front shop (w ∷ ws) vs r =
    (all_front (λ v. lb shop w ≤ lb shop v) ws vs r.0, rises_front shop ws vs r.1)

ordered_front : (shop : Shop) (o : Order) (ws vs : List (List ℕ)) → in_order shop o (ws ++ vs) ≡ ws ++ vs
    → in_order shop o ws ≡ ws
ordered_front shop Kept ws vs e = refl
ordered_front shop Bound ws vs e = sort_fixed (lb shop) ws (rises_front shop ws vs
    (subst (Rises (lb shop)) e (sort_rises (lb shop) (ws ++ vs))))

module _ (shop : Shop) (plan : Planned) (s : Stand) (t : OpenRun) (run : IsRunAt shop plan s t)
    (standing : IsStanding shop s) where
  distant : List Node
  distant = run.distant

  all : List Node
  all = open_list t.open ++ run.distant

  pub whole : open_list (in_full t run.distant).open ≡ open_list t.open ++ run.distant
  whole = list_is (order_of t.open) (open_list t.open ++ run.distant)

  pub full_search : IsSearchOf shop plan.order (in_full t run.distant)
  full_search = search_of shop plan.order s (in_full t run.distant) run.at standing

  -- all open nodes are below the makespan
  below_all : AreBefore t.makespan all
  unfolding all
  below_all = recursion_from_All (λ n. n.bound < t.makespan) (open_list t.open ++ run.distant)
      (subst (λ ns. All (λ n. n.bound < t.makespan) ns) whole
      (all_below shop t.makespan (open_list (in_full t run.distant).open) full_search.bounds
      (λ w h. let a = full_search.standing.below w h in let b = full_search.makespan in omega arith)))

  pub distant_below : AreBefore t.makespan run.distant
  unfolding all
  distant_below = all_back (λ n. n.bound < t.makespan) (open_list t.open) run.distant below_all

  -- no other is open, or those stored are enough
  pub stored_enough : (n : ℕ) → n ≤ most_left plan t.rounds → (run.distant ≡ []) ⊎ (n ≤ length (open_list t.open))
  stored_enough n le = elim run.are_distant.enough [
    | inl low ↦ inl (none_distant t.distant.horizon t.makespan run.distant low run.are_distant.behind distant_below)
    | inr many ↦ inr (let m = many.1 in omega arith)
  ]

  words_whole : words_of (open_list (in_full t run.distant).open) ≡ words_of (open_list t.open) ++ words_of run.distant
  words_whole = ap words_of whole ∙ map-append (λ (n : Node). n.word) (open_list t.open) run.distant

  some_words : (P : List ℕ → Type 0)
      → ((w : List ℕ) → Contains (words_of (open_list (in_full t run.distant).open)) w → P w)
      → (w : List ℕ) → Contains (words_of (open_list t.open)) w → P w
  some_words P h = contains_all P (words_of (open_list t.open)) (all_front P (words_of (open_list t.open))
      (words_of run.distant) (subst (AllByRecursion P) words_whole
      (all_contains P (words_of (open_list (in_full t run.distant).open)) h)))

  -- the nodes that are stored are a standing themselves
  pub near_search : IsSearchOf shop plan.order t
  near_search = record {
    standing = record {
      full = full_search.standing.full;
      words = some_words (IsWord shop) full_search.standing.words;
      below = some_words (λ w. lb shop w < makespan_of shop (stand_of t)) full_search.standing.below;
    };
    makespan = full_search.makespan;
    bounds = All-from_recursion (IsNode shop) (open_list t.open) (all_front (IsNode shop) (open_list t.open) run.distant
        (recursion_from_All (IsNode shop) (open_list t.open ++ run.distant)
        (subst (AreNodes shop) whole full_search.bounds)));
    kept = sym (order_is (order_of t.open) (open_list t.open ++ run.distant)) ∙ full_search.kept;
    ordered = ordered_front shop plan.order (words_of (open_list t.open)) (words_of run.distant)
        (subst (λ ws. in_order shop plan.order ws ≡ ws) words_whole full_search.ordered);
  }

  module _ (some : 0 < plan.piece) (left : t.rounds < plan.rounds) where
    piece_enough : 256 * plan.piece ≤ most_left plan t.rounds
    piece_enough = (let e : plan.rounds - t.rounds ≡ suc (plan.rounds - (t.rounds + 1)) = omega arith
        in let f : suc (plan.rounds - (t.rounds + 1)) * (256 * plan.piece)
        ≡ 256 * plan.piece + (plan.rounds - (t.rounds + 1)) * (256 * plan.piece) = omega arith
        in subst (λ k. 256 * plan.piece ≤ k * (256 * plan.piece) + 1) (sym e) (omega arith))

    words_enough : (words_of run.distant ≡ []) ⊎ (256 * plan.piece ≤ length (words_of (open_list t.open)))
    words_enough = elim (stored_enough (256 * plan.piece) piece_enough) [
      | inl none ↦ inl (ap words_of none)
      | inr many ↦ inr (let e = length-map (open_list t.open) (λ (n : Node). n.word) in omega arith)
    ]

    -- the nodes that are stored are cut like all
    pub same_front : front_of (cut_of shop plan (stand_of t))
        ≡ front_of (cut_of shop plan (stand_of (in_full t run.distant)))
    same_front =
        let n = 256 * plan.piece
        in let ws = words_of (open_list t.open)
        in let vs = words_of run.distant
        in let full = words_of (open_list (in_full t run.distant).open)
        in let c = lb shop t.word
        in let near_nodes = near_search.bounds
        in let one : 1 ≤ most_left plan t.rounds = omega arith
        in let bounds : least_bound shop c (in_order shop plan.order ws)
        ≡ least_bound shop c (in_order shop plan.order full) =
        ap (least_bound shop c) near_search.ordered
        ∙ (sym (least_is shop c (open_list t.open) near_nodes)
        ∙ (sym (least_near t.distant.horizon c
        (open_list t.open) run.distant run.are_distant.near run.are_distant.behind
        (stored_enough 1 one))
        ∙ (ap (least_of_bounds c) (sym whole)
        ∙ (least_is shop c (open_list (in_full t run.distant).open) full_search.bounds
        ∙ ap (least_bound shop c) (sym full_search.ordered)))))
        in let cut : cut_into 256 plan.piece (in_order shop plan.order ws)
        ≡ cut_into 256 plan.piece (in_order shop plan.order full) =
        ap (cut_into 256 plan.piece) near_search.ordered
        ∙ (sym (cut_front 256 plan.piece n ws some (omega arith))
        ∙ (ap (cut_into 256 plan.piece) (sym (first_of_all n ws vs words_enough).0)
        ∙ (cut_front 256 plan.piece n (ws ++ vs) some (omega arith)
        ∙ (ap (cut_into 256 plan.piece) (sym words_whole)
        ∙ ap (cut_into 256 plan.piece) (sym full_search.ordered)))))
        in (λ i. record {
          shop = shop;
          word = t.word;
          best = c;
          bound = bounds i;
          budget = plan.budget;
          pieces = cut i;
          rest = [];
          rounds = t.rounds;
          nodes = t.nodes;
        })

    -- what the round leaves of all open nodes
    pub full_others : (others : OpenNodes) → open_list others ≡ drop (256 * plan.piece) (open_list t.open)
        → drop (256 * plan.piece) (open_list (in_full t run.distant).open) ≡ open_list others ++ run.distant
    full_others others e = ap (drop (256 * plan.piece)) whole
        ∙ ((first_of_all (256 * plan.piece) (open_list t.open) run.distant
        (stored_enough (256 * plan.piece) piece_enough)).1 ∙ ap (λ ns. ns ++ run.distant) (sym e))
