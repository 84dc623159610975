-- What the entries of a round come to: at the first sheet that ends at the opening bound, or at the end.
use Rattle.std.proofs.Common.{◌≡◌, ℕ, zero, suc, ◌+◌, ◌≤◌, ◌<◌, Bool, true, false, Some, None, List, [], ◌∷◌, ◌++◌}
use Rattle.std.proofs.Common.{length, get_or, take, refl, sym, ◌∙◌, ap, arith, eqb, ltb, eqb-true}
use Rattle.std.{proofs.lemmas.List.{take_all, length-map, Elements.filter-append}, specs.Prelude.unwrap_or}
use Rattle.std.specs.List.{AllByRecursion, flat_map, sum_by}
use Rattle.shop_model.specs.Shop.{Shop}
use Rattle.shop_bound.specs.Bound.{lb}
use Rattle.shop_nodes.{proofs.{HighWalks.below-below, Members.{in_all, all_in}}, specs.declared.sheets.Sheet.Sheet}
use Rattle.shop_nodes.specs.{Nodes.words_of, Walking.Walk}
use Rattle.shop_runs.specs.Round.{Told, taken_of, hit_or, up_to_hit, best_word, sheet_in, sheets_of, after_round}
use Rattle.shop_runs.specs.{Round.{gathered, words_below}, Laws.IsRound, inner.Outcomes.{IsOutcome, left_open}}
use Rattle.shop_runs.specs.{inner.Outcomes.stands_after, declared.outcomes.RoundResult.RoundResult, Entries.is_hit}
use Rattle.shop_runs.proofs.{SheetLemmas.{hit_in, found_is, least_is_bound}, StandingLemmas.{known, best_of_round}}
use Rattle.shop_runs.proofs.{StandingLemmas.rest_closed, GatherLemmas.{GatheredSoFar, IsSheetAt, whole_of, below_best}}
use Rattle.shop_runs.proofs.GatherLemmas.{best_among, first_sheets, map_at, inside, at_index, next_sheets, next_taken}
use Rattle.shop_runs.proofs.GatherLemmas.{few_here}

-- the first of some walks that ends at c, where none before it does
hit_at : (c : ℕ) (ss : List Walk) (i : ℕ) (w : Walk) → i < length ss
    → ((k : ℕ) → k < i → eqb (get_or ss k w).best c ≡ false) → get_or ss i w ≡ w
    → eqb w.best c ≡ true → up_to_hit c ss ≡ Some (w, take i ss ++ w ∷ [])
hit_at c [] i w h none e t = absurd (omega arith)
hit_at c (s ∷ ss) zero w h none e t = grind arith
hit_at c (s ∷ ss) (suc i) w h none e t =
    let r = hit_at c ss i w (omega arith) (λ k l. none (suc k) (omega arith)) e t
    in ap (λ b. hit_or b s (up_to_hit c ss)) (none 0 (omega arith)) ∙ ap (hit_or false s) r

no_hit : (c : ℕ) (ss : List Walk) (d : Walk) → ((k : ℕ) → k < length ss → eqb (get_or ss k d).best c ≡ false)
    → up_to_hit c ss ≡ None
no_hit c [] d none = refl
no_hit c (s ∷ ss) d none =
    ap (λ b. hit_or b s (up_to_hit c ss)) (none 0 (omega arith))
    ∙ ap (hit_or false s) (no_hit c ss d (λ k l. none (suc k) (omega arith)))

-- a piece hits where its sheet does
sheet_hits : (r : Told) (k : ℕ) (d : Walk) → k < length r.pieces
    → eqb (get_or (sheets_of r) k d).best r.bound ≡ is_hit r k
sheet_hits r k d h = ap (λ (w : Walk). eqb w.best r.bound) (map_at r r.pieces k d h)

many_sheets : (r : Told) → length (sheets_of r) ≡ length r.pieces
many_sheets r = length-map r.pieces (sheet_in r)

-- what the sheets left below their own bests, once more below a lower one
lefts_below : (shop : Shop) (c : ℕ) (ss : List Walk) → AllByRecursion (λ t. c ≤ t.best) ss
    → words_below shop c (flat_map (below_best shop) ss) ≡ words_below shop c (flat_map (λ t. t.left) ss)
lefts_below shop c [] low = refl
lefts_below shop c (s ∷ ss) low =
    filter-append (λ w. ltb (lb shop w) c) (below_best shop s) (flat_map (below_best shop) ss)
    ∙ ((λ j. below-below shop s.best c s.left low.0 j ++ lefts_below shop c ss low.1 j)
    ∙ sym (filter-append (λ w. ltb (lb shop w) c) s.left (flat_map (λ t. t.left) ss)))

module _ (r : Told) (is : IsRound r) (i : ℕ) (o : RoundResult) (was : GatheredSoFar r i o)
    (small : r.budget ≤ 10000000) (few : length r.pieces ≤ 256) where
  module _ (s : Sheet) (at : IsSheetAt r i s) (hit : eqb s.makespan r.bound ≡ true) where
    first_hit : up_to_hit r.bound (sheets_of r) ≡ Some (whole_of r i s, first_sheets r i ++ whole_of r i s ∷ [])
    first_hit = grind (arith, many_sheets, inside, hit_at, whole_of, sheet_hits, at_index)

    closed_bound : r.bound ≡ lb r.shop (unwrap_or s.found r.word)
    closed_bound = grind (arith, hit_in, whole_of, first_sheets, first_hit, in_all, known, found_is, eqb-true)

    -- the outcome of a round that a sheet closes
    pub closed_outcome : (t : RoundResult) → t.found ≡ s.found → t.makespan ≡ s.makespan → t.left.items ≡ []
        → t.nodes ≡ o.nodes + s.taken → IsOutcome r t
    closed_outcome t found makespan left nodes =
        grind (
          arith,
          eqb-true,
          rest_closed,
          first_sheets,
          whole_of,
          next_taken,
          next_sheets,
          first_hit,
          closed_bound,
          few_here,
          many_sheets,
        )

  module _ (all : i ≡ length r.pieces) where
    all_sheets : first_sheets r i ≡ sheets_of r
    all_sheets = let m = many_sheets r in take_all i (sheets_of r) (omega arith)

    none_hit : up_to_hit r.bound (sheets_of r) ≡ None
    none_hit =
        let d : Walk = record { found = None; best = 0; left = []; budget = 0 }
        in let m = many_sheets r
        in no_hit r.bound (sheets_of r) d (λ k l. sheet_hits r k d (omega arith) ∙ was.none_hits k (omega arith))

    word_of_all : unwrap_or o.found r.word ≡ best_word r.best r.word (sheets_of r)
    word_of_all = was.word_is ∙ ap (λ ss. unwrap_or (best_among r ss).found r.word) all_sheets

    open_bound : o.makespan ≡ lb r.shop (unwrap_or o.found r.word)
    open_bound = grind (arith, best_among, all_sheets, least_is_bound, known, word_of_all)

    open_is : gathered r ≡ stands_after r o
    open_is =
        let better = best_word r.best r.word (sheets_of r)
        in let c : lb r.shop better ≡ o.makespan = sym (open_bound ∙ ap (lb r.shop) word_of_all)
        in let each : AllByRecursion (λ t. o.makespan ≤ t.best) (sheets_of r) = all_in (λ t. o.makespan ≤ t.best)
        (sheets_of r) (λ t h. let a = (best_of_round r is).each t h in omega arith)
        in let test : List ℕ → Bool = (λ w. ltb (lb r.shop w) o.makespan)
        in let left = words_of (left_open o.left.items)
        in let lefts : words_below r.shop o.makespan (flat_map (λ t. t.left) (sheets_of r))
        ≡ words_below r.shop o.makespan left =
        sym (ap (words_below r.shop o.makespan) (was.left_is ∙ ap (flat_map (below_best r.shop)) all_sheets)
        ∙ lefts_below r.shop o.makespan (sheets_of r) each)
        in let words : words_below r.shop (lb r.shop better) (flat_map (λ t. t.left) (sheets_of r) ++ r.rest)
        ≡ words_below r.shop o.makespan (left ++ r.rest) =
        (λ j. words_below r.shop (c j) (flat_map (λ t. t.left) (sheets_of r) ++ r.rest))
        ∙ (filter-append test (flat_map (λ t. t.left) (sheets_of r)) r.rest
        ∙ (ap (λ ws. ws ++ words_below r.shop o.makespan r.rest) lefts ∙ sym (filter-append test left r.rest)))
        in let n : r.nodes + sum_by (taken_of r.budget) (sheets_of r) ≡ o.nodes =
        sym (was.nodes_is ∙ ap (λ ss. r.nodes + sum_by (taken_of r.budget) ss) all_sheets)
        in ap (after_round r (sheets_of r)) none_hit
        ∙ (λ j. record { word = sym word_of_all j; open_words = words j; rounds = r.rounds + 1; nodes = n j })

    -- and of one that none does
    pub open_outcome : IsOutcome r o
    open_outcome = grind (arith, open_is, open_bound)
