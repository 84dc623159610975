-- How many nodes a run counts: their number stays below 2^64, for each bound and in all.
use Rattle.std.proofs.Common.{◌≡◌, ℕ, zero, suc, ◌+◌, ◌*◌, ◌^◌, ◌≤◌, ◌<◌, min, List, [], ◌∷◌, ◌++◌, length, take}
use Rattle.std.proofs.Common.{drop, get_or}
use Rattle.std.proofs.{Common.{◌∙◌, ap, arith, ltb, append-nil}, lemmas.List.{length-append, length-map, length-drop}}
use Rattle.std.specs.List.{flat_map}
use Rattle.shop_model.specs.{Limits.IsWithinLimits, Shop.Shop}
use Rattle.shop_nodes.specs.{declared.nodes.Node.Node, inner.HeldNodes.nodes_below, Nodes.words_of}
use Rattle.shop_runs.specs.{Answers.answer, Laws.IsStanding, Plans.Planned}
use Rattle.shop_runs.specs.{Round.{Stand, Told, cut_of, gathered, words_below}}
use Rattle.shop_runs.specs.Round.{words_of_round, in_order}
use Rattle.shop_runs.specs.declared.{open_nodes.OpenNodes.OpenNodes, plans.Order.TheVariants.{Kept, Bound}}
use Rattle.shop_runs.specs.declared.{plans.Order.Order}
use Rattle.shop_runs.specs.declared.{distant_nodes.DistantNodes.DistantNodes, outcomes.RoundResult.RoundResult}
use Rattle.shop_runs.specs.{declared.runs.OpenRun.OpenRun, inner.Searches.{stand_of, IsRunAt, HasFewOpen, front_of}}
use Rattle.shop_runs.specs.inner.{Distant.{count_of, FitBelow, AreCountable, ArePutOrCounted}}
use Rattle.shop_runs.specs.inner.{Outcomes.{IsOutcome, left_open}}
use Rattle.shop_runs.specs.inner.{Stacks.put_all_before, Stores.{open_list, order_of}}
use Rattle.shop_runs.proofs.{DistantLemmas.{count_few, count_below, count_within}, DistantLists.count_put}
use Rattle.shop_runs.proofs.{Cutting.pieces_all, FrontLemmas.length_order, NodeLemmas.below_is}
use Rattle.shop_runs.proofs.{OpenSizes.{answer_few, few_words, few_filtered, gathered_few, times_at_most, times_both}}
use Rattle.shop_runs.proofs.{Trusting.answer_covers, Ways.many}

-- all open nodes of a run
run_few : (shop : Shop) (plan : Planned) (s : Stand) (t : OpenRun) (run : IsRunAt shop plan s t) → IsStanding shop s
    → HasFewOpen shop s → IsWithinLimits shop → length (open_list t.open) + length run.distant < 2 ^ 59
run_few shop plan s t run standing few within =
    let a = many shop plan s t run standing
    in let n = ap (λ (x : Stand). x.nodes) run.at.stands_at
    in let b = few_words shop s t.rounds t.nodes within few t.within (omega arith)
    in omega arith

pub few_at_end : (shop : Shop) (plan : Planned) (t : OpenRun) (run : IsRunAt shop plan (answer shop plan) t)
    → IsWithinLimits shop → length (open_list t.open) + length run.distant < 2 ^ 59
few_at_end shop plan t run within =
    run_few shop plan (answer shop plan) t run (answer_covers shop plan).0 (answer_few shop plan) within

-- what is put is counted, in either order
count_put_all : (b : ℕ) (o : Order) (ns nodes : List Node)
    → count_of b (put_all_before o ns nodes) ≡ count_of b ns + count_of b nodes
count_put_all b Bound ns nodes = count_put b ns nodes
count_put_all b Kept [] nodes = omega arith
count_put_all b Kept (n ∷ ns) nodes = grind (arith, count_put_all b Kept ns nodes)

fewer_taken : (xs : List ℕ) (m b : ℕ) → get_or (take m xs) b 0 ≤ get_or xs b 0
fewer_taken [] zero b = omega arith
fewer_taken [] (suc m) b = omega arith
fewer_taken (x ∷ xs) zero b = grind arith
fewer_taken (x ∷ xs) (suc m) zero = omega arith
fewer_taken (x ∷ xs) (suc m) (suc b) = fewer_taken xs m b

module _ (shop : Shop) (plan : Planned) (s : Stand) (t : OpenRun) (run : IsRunAt shop plan s t)
    (standing : IsStanding shop s) (few : HasFewOpen shop s) (within : IsWithinLimits shop) (r : Told) (o : RoundResult)
    (front : r ≡ front_of (cut_of shop plan (stand_of t))) (out : IsOutcome r o) where
  -- the words of the round are open nodes of the run
  round_words : length (words_of_round r) ≤ length (open_list t.open)
  round_words =
      let q = cut_of shop plan (stand_of t)
      in let ws = in_order shop plan.order (words_of (open_list t.open))
      in let a = ap (λ (x : Told). length (words_of_round x)) front
      in let b = length-append (flat_map (λ p. p) q.pieces) []
      in let d = length-append (flat_map (λ p. p) q.pieces) q.rest
      in let e = ap length (pieces_all plan ws)
      in let f = length_order shop plan.order (words_of (open_list t.open))
      in let g = length-map (open_list t.open) (λ (n : Node). n.word)
      in omega arith

  left_few : length (nodes_below o.makespan (left_open o.left.items)) < 2 ^ 60
  left_few =
      let left = left_open o.left.items
      in let of = ap (λ (x : Told). x.shop) front
      in let none = ap (λ (x : Told). x.rest) front
      in let low = nodes_below o.makespan left
      in let a = length-map low (λ (n : Node). n.word)
      in let b = ap length (below_is r.shop o.makespan left out.nodes_left)
      in let words : length (gathered r).open_words ≡ length (words_below r.shop o.makespan (words_of left)) =
      ap (λ (x : Stand). length x.open_words) out.stands
      ∙ ap (λ ws. length (words_below r.shop o.makespan ws))
      (ap (λ ws. words_of left ++ ws) none ∙ append-nil (words_of left))
      in let d = gathered_few r
      in let e = ap (λ (x : Stand). x.nodes) out.stands
      in let f = out.counted
      in let all = run_few shop plan s t run standing few within
      in let g = round_words
      in let h = times_at_most o.nodes (r.nodes + 2560000000) (length r.shop.jobs) (omega arith)
      in let i = times_both r.nodes 2560000000 (length r.shop.jobs)
      in let j = ap (λ k. k * length r.shop.jobs) e
      in let k = ap (λ (x : Shop). length x.jobs) of
      in let l = within.jobs
      in omega arith

  module _ (less : DistantNodes) (counts : less.counts.items ≡ take o.makespan t.distant.counts.items) where
    less_few : (b : ℕ) → get_or less.counts.items b 0 < 2 ^ 59
    less_few b =
        let all = run_few shop plan s t run standing few within
        in let a = ap (λ xs. get_or xs b 0) counts
        in let d = fewer_taken t.distant.counts.items o.makespan b
        in let e = run.are_distant.counted b
        in let f = count_few b run.distant
        in omega arith

    pub put_fits : FitBelow o.makespan (left_open o.left.items) less
    put_fits = λ b. (
        let a = less_few b
        in let d = count_within b less.horizon o.makespan (left_open o.left.items)
        in let e = left_few
        in omega arith
        )

    pub retire_fits : (others kept joined : OpenNodes) (more : DistantNodes) (n : ℕ)
        → open_list others ≡ drop n (open_list t.open) → open_list kept ≡ nodes_below o.makespan (open_list others)
        → ArePutOrCounted o.makespan (left_open o.left.items) kept less joined more
        → AreCountable (open_list joined) more
    retire_fits others kept joined more n left below put = λ b. (
        let ns = left_open o.left.items
        in let low = nodes_below (min o.makespan less.horizon) ns
        in let all = run_few shop plan s t run standing few within
        in let a = less_few b
        in let d = count_within b less.horizon o.makespan ns
        in let e = left_few
        in let f = put.counted b
        in let g = ap (count_of b) put.put.1 ∙ count_put_all b (order_of kept) low (open_list kept)
        in let h = count_below b (min o.makespan less.horizon) o.makespan ns (omega arith)
        in let i = count_few b (open_list kept)
        in let j = ap length below
        in let k = few_filtered (λ (x : Node). ltb x.bound o.makespan) (open_list others)
        in let l = ap length left
        in let m = length-drop n (open_list t.open)
        in omega arith
        )
