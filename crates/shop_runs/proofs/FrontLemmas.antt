-- A run whose open nodes stand in order: the front that is cut, and what joins it again.
use Rattle.std.proofs.Common.{◌≡◌, ℕ, suc, ◌≤◌, ◌<◌, Option, Some, None, List, [], ◌∷◌, ◌++◌, length, drop, refl, sym}
use Rattle.std.proofs.{Common.{◌∙◌, ap, subst, arith, ltb, append-nil, min}, lemmas.Bool.cases_Bool}
use Rattle.std.proofs.lemmas.List.Elements.{filter-append, recursion_from_All, All-from_recursion, All-filter}
use Rattle.std.specs.{Prelude.Contains, List.{AllByRecursion, flat_map}}
use Rattle.shop_model.specs.{Shop.Shop, Word.IsWord}
use Rattle.shop_bound.{specs.Bound.lb, proofs.Lists.all_append}
use Rattle.shop_nodes.specs.{Branching.{insert_by, sort_by}, Walking.Walk, declared.nodes.Node.Node, Nodes.words_of}
use Rattle.shop_nodes.{specs.{Nodes.{IsNode, AreNodes}, inner.HeldNodes.nodes_below}, proofs.Members.all_contains}
use Rattle.shop_nodes.proofs.Members.{contains_all, all_insert, in_all}
use Rattle.shop_runs.specs.declared.{plans.Order.{Order, TheVariants.{Kept, Bound}}, open_nodes.OpenNodes.OpenNodes}
use Rattle.shop_runs.specs.{declared.runs.OpenRun.OpenRun, Round.{Stand, Told, in_order, words_below, sheets_of}}
use Rattle.shop_runs.specs.{Round.{up_to_hit, after_round, gathered, makespan_of, least_bound}, Laws.IsRound}
use Rattle.shop_runs.specs.{Laws.IsStanding, inner.Searches.{IsSearchAt, IsSearchOf, front_of, stand_of}}
use Rattle.shop_runs.specs.inner.{Stacks.{put_before, put_all_before}, Stores.{open_list, order_of}}
use Rattle.shop_runs.proofs.{Cutting.all_front, NodeLemmas.{insert_words, below_is}, OpenLemmas.ordered_all}
use Rattle.shop_runs.proofs.{SheetLemmas.{hit_in, found_is}, SortLemmas.{Rises, sort_rises, sort_fixed, rises_drop}}
use Rattle.shop_runs.proofs.{SortLemmas.rises_filter, StandingLemmas.{known, rest_closed}}

-- the open nodes of a run are those left, put before the others whose bounds are below the makespan
pub record IsJoined (left : List Node) (others : OpenNodes) (t : OpenRun) : Type 0 where
  pub kept : order_of t.open ≡ order_of others
  pub open_nodes : open_list t.open ≡ put_all_before (order_of others) left (nodes_below t.makespan (open_list others))

module _ (shop : Shop) where
  -- words in the plan's order
  abbrev pub IsInOrder : Order → List (List ℕ) → Type 0
  IsInOrder Kept ws = Unit {0}
  IsInOrder Bound ws = Rises (lb shop) ws

  pub none_in_order : (o : Order) → IsInOrder o []
  none_in_order x = grind arith

  order_fixed : (o : Order) (ws : List (List ℕ)) → IsInOrder o ws → in_order shop o ws ≡ ws
  order_fixed x ws r = grind (arith, sort_fixed)

  pub in_order_is : (o : Order) (ws : List (List ℕ)) → IsInOrder o (in_order shop o ws)
  in_order_is x ws = grind (arith, sort_rises)

  pub order_drop : (o : Order) (n : ℕ) (ws : List (List ℕ)) → IsInOrder o ws → IsInOrder o (drop n ws)
  order_drop x n ws r = grind (arith, rises_drop)

  order_below : (o : Order) (c : ℕ) (ws : List (List ℕ)) → IsInOrder o ws → IsInOrder o (words_below shop c ws)
  order_below x c ws r = grind (arith, rises_filter)

  pub ordered_twice : (o : Order) (ws : List (List ℕ)) → in_order shop o (in_order shop o ws) ≡ in_order shop o ws
  ordered_twice o ws = order_fixed o (in_order shop o ws) (in_order_is o ws)

  -- what is put before words in order comes to the whole in order
  put_word : Order → List ℕ → List (List ℕ) → List (List ℕ)
  put_word Kept w ws = w ∷ ws
  put_word Bound w ws = insert_by (lb shop) w ws

  put_in_order : (o : Order) (w : List ℕ) (ws vs : List (List ℕ))
      → put_word o w (in_order shop o (ws ++ vs)) ≡ in_order shop o (w ∷ ws ++ vs)
  unfolding put_word
  put_in_order x w ws vs = grind arith

  put_words : (o : Order) (n : Node) (ns : List Node) → IsNode shop n → AllByRecursion (IsNode shop) ns
      → words_of (put_before o n ns) ≡ put_word o n.word (words_of ns)
  unfolding put_word
  put_words x n ns p a = grind (arith, insert_words)

  put_nodes : (o : Order) (n : Node) (ns : List Node) → IsNode shop n → AllByRecursion (IsNode shop) ns
      → AllByRecursion (IsNode shop) (put_before o n ns)
  put_nodes x n ns p a = grind (arith, all_insert)

  put_all_nodes : (o : Order) (ns others : List Node) → AllByRecursion (IsNode shop) ns
      → AllByRecursion (IsNode shop) others → AllByRecursion (IsNode shop) (put_all_before o ns others)
  put_all_nodes o [] others a b = b
  put_all_nodes o (n ∷ ns) others a b = grind (arith, put_nodes, put_all_nodes o ns others a.1 b)

  put_all_words : (o : Order) (ns others : List Node) → AllByRecursion (IsNode shop) ns
      → AllByRecursion (IsNode shop) others → IsInOrder o (words_of others)
      → words_of (put_all_before o ns others) ≡ in_order shop o (words_of ns ++ words_of others)
  put_all_words o [] others a b r = sym (order_fixed o (words_of others) r)
  put_all_words o (n ∷ ns) others a b r =
      grind (arith, put_words, put_all_nodes, put_word, put_in_order, put_all_words o ns others a.1 b r)

  -- of words in order there are as many, with the same least bound
  insert_least : (c : ℕ) (w : List ℕ) (ws : List (List ℕ))
      → least_bound shop c (insert_by (lb shop) w ws) ≡ least_bound shop c (w ∷ ws)
  insert_least c w [] = refl
  insert_least c w (v ∷ ws) = grind (arith, cases_Bool, insert_least (min c (lb shop v)) w ws)

  sort_least : (c : ℕ) (ws : List (List ℕ)) → least_bound shop c (sort_by (lb shop) ws) ≡ least_bound shop c ws
  sort_least c [] = refl
  sort_least c (w ∷ ws) = insert_least c w (sort_by (lb shop) ws) ∙ sort_least (min c (lb shop w)) ws

  pub least_order : (o : Order) (c : ℕ) (ws : List (List ℕ))
      → least_bound shop c (in_order shop o ws) ≡ least_bound shop c ws
  least_order x c ws = grind (arith, sort_least)

  insert_length : (w : List ℕ) (ws : List (List ℕ)) → length (insert_by (lb shop) w ws) ≡ suc (length ws)
  insert_length w [] = refl
  insert_length w (v ∷ ws) = grind (arith, cases_Bool, insert_length w ws)

  pub sort_length : (ws : List (List ℕ)) → length (sort_by (lb shop) ws) ≡ length ws
  sort_length [] = refl
  sort_length (w ∷ ws) = insert_length w (sort_by (lb shop) ws) ∙ ap suc (sort_length ws)

  pub length_order : (o : Order) (ws : List (List ℕ)) → length (in_order shop o ws) ≡ length ws
  length_order x ws = grind (arith, sort_length)

-- the front of a round is a round
part_of_words : (P : List ℕ → Type 0) (xs ys : List (List ℕ)) → ((w : List ℕ) → Contains (xs ++ ys) w → P w)
    → (w : List ℕ) → Contains (xs ++ []) w → P w
part_of_words P xs ys h = contains_all P (xs ++ [])
    (all_append P xs [] (all_front P xs ys (all_contains P (xs ++ ys) h)) tt)

pub front_is_round : (r : Told) → IsRound r → IsRound (front_of r)
front_is_round r is = record {
  full = is.full;
  best = is.best;
  words = part_of_words (IsWord r.shop) (flat_map (λ p. p) r.pieces) r.rest is.words;
  most = is.most;
  bound = part_of_words (λ w. r.bound ≤ lb r.shop w) (flat_map (λ p. p) r.pieces) r.rest is.bound;
}

-- what stands after a round is what stands after its front, with those of its rest that are below the makespan
abbrev pub rejoined : Told → Stand → Stand
rejoined r s = record s { open_words = s.open_words ++ words_below r.shop (lb r.shop s.word) r.rest }

module _ (r : Told) (is : IsRound r) where
  after_front : (o : Option (Walk × List Walk)) → up_to_hit r.bound (sheets_of r) ≡ o
      → after_round r (sheets_of r) o ≡ rejoined r (after_round (front_of r) (sheets_of r) o)
  after_front None e = grind (arith, filter-append, append-nil)
  after_front (Some (h, counted)) e = grind (arith, hit_in, in_all, known, found_is, rest_closed)

  pub gathered_front : gathered r ≡ rejoined r (gathered (front_of r))
  gathered_front = after_front (up_to_hit r.bound (sheets_of r)) refl

-- where a run stands once some nodes have joined the others that are below its makespan
module _ (shop : Shop) (o : Order) (s : Stand) (left : List Node) (others : OpenNodes) (t : OpenRun)
    (whole : s ≡ record (stand_of t) {
      open_words = words_of left ++ words_below shop t.makespan (words_of (open_list others));
    })
    (makespan : t.makespan ≡ lb shop t.word) (left_nodes : AreNodes shop left)
    (rest : AreNodes shop (open_list others)) (kept : order_of others ≡ o)
    (rises : IsInOrder shop o (words_of (open_list others))) (joined : IsJoined left others t) where
  low : List Node
  low = nodes_below t.makespan (open_list others)

  low_nodes : AreNodes shop low
  unfolding low
  low_nodes = All-filter (λ n. ltb n.bound t.makespan) (IsNode shop) (open_list others) rest

  low_words : words_of low ≡ words_below shop t.makespan (words_of (open_list others))
  unfolding low
  low_words = below_is shop t.makespan (open_list others) rest

  open_is : open_list t.open ≡ put_all_before o left low
  unfolding low
  open_is = joined.open_nodes ∙ ap (λ q. put_all_before q left low) kept

  open_words_are : words_of (open_list t.open) ≡ in_order shop o s.open_words
  open_words_are = grind (arith, open_is, put_all_words, low, recursion_from_All, low_nodes, low_words, order_below)

  pub joined_at : IsSearchAt shop o s t
  joined_at = record {
    stands_at = grind (arith, open_words_are);
    makespan = makespan ∙ ap (λ (x : Stand). lb shop x.word) (sym whole);
    bounds = subst (AreNodes shop) (sym open_is) (All-from_recursion (IsNode shop)
        (put_all_before o left low) (put_all_nodes shop o left low
        (recursion_from_All (IsNode shop) left left_nodes)
        (recursion_from_All (IsNode shop) low low_nodes)));
    kept = joined.kept ∙ kept;
  }

-- a run that stands there is a standing of the instance
pub search_of : (shop : Shop) (o : Order) (s : Stand) (t : OpenRun) → IsSearchAt shop o s t → IsStanding shop s
    → IsSearchOf shop o t
search_of shop o s t at is =
    let words : words_of (open_list t.open) ≡ in_order shop o s.open_words =
    ap (λ (x : Stand). x.open_words) at.stands_at
    in let all : (P : List ℕ → Type 0) → ((w : List ℕ) → Contains s.open_words w → P w) → (w : List ℕ)
    → Contains (in_order shop o s.open_words) w → P w =
    (λ P h. contains_all P (in_order shop o s.open_words)
    (ordered_all shop o P s.open_words (all_contains P s.open_words h)))
    in record {
      standing = subst (IsStanding shop) (sym at.stands_at) (record {
        full = is.full;
        words = all (IsWord shop) is.words;
        below = all (λ w. lb shop w < makespan_of shop s) is.below;
      });
      makespan = at.makespan ∙ ap (λ (x : Stand). lb shop x.word) (sym at.stands_at);
      bounds = at.bounds;
      kept = at.kept;
      ordered = ap (in_order shop o) words ∙ (ordered_twice shop o s.open_words ∙ sym words);
    }
