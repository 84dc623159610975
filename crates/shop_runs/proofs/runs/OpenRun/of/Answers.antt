use Rattle.std.proofs.Common.{◌≡◌, ◌++◌, min, get_or, sym, ◌∙◌, ap, subst, arith, append-nil}
use Rattle.shop_nodes.{specs.{Nodes.{words_of, AreNodes}, inner.HeldNodes.nodes_below}, proofs.LeftLemmas.can_be_shared}
use Rattle.shop_runs.specs.{Round.words_below, Standings.stands, inner.{Distant.count_of, Stacks.put_all_before}}
use Rattle.shop_runs.{specs.inner.Stores.{open_list, order_of}, proofs.{DistantLemmas.none_within, PutLemmas.none_fit}}
use Rattle.shop_runs.proofs.{FrontLemmas.{IsInOrder, joined_at, none_in_order}, KeptBelow.{all_below, none_closed}}
use Rattle.shop_runs.proofs.runs.OpenRun.of.Goals as goal

pub put_nodes-requires-clause-words : goal.put_nodes-requires-clause-words
put_nodes-requires-clause-words c = grind (arith, can_be_shared)

pub put_nodes-requires-clause-fits : goal.put_nodes-requires-clause-fits
put_nodes-requires-clause-fits c = none_fit c.args.standing.makespan c.as_slice.result.now c.none-distant.result
    (let e = c.none-distant.ensures.horizon in omega arith)
    (λ b. ap (λ xs. get_or xs b 0) c.none-distant.ensures.counts)

pub returns-clause-at : goal.returns-clause-at
returns-clause-at c =
    let shop = c.args.instance.now
    in let u = c.args.standing
    in let at = c.requires.0
    in let is = c.requires.1
    in let low = nodes_below u.makespan u.open.items
    in let others = c.new-open.result
    in let none = c.new-open.ensures.none
    in let put = c.in_ok-put_nodes.ensures.put
    in let limit : min u.makespan c.none-distant.result.horizon ≡ u.makespan =
    ap (min u.makespan) c.none-distant.ensures.horizon ∙ omega arith
    in let list : open_list c.put_nodes.new.self ≡ put_all_before (order_of others) low (open_list others) =
    put.1
    ∙ (λ i. put_all_before (order_of others) (nodes_below (limit i) (c.as_slice.ensures.value i)) (open_list others))
    in let all : low ≡ u.open.items = none_closed u.makespan u.makespan u.open.items (omega arith)
    (all_below shop u.makespan u.open.items at.bounds
    (λ w h. let a = is.below w h in let b = at.makespan in omega arith))
    in let words : words_of u.open.items
    ≡ words_of low ++ words_below shop u.makespan (words_of (open_list others)) =
    ap words_of (sym all) ∙ (sym (append-nil (words_of low))
    ∙ ap (λ ns. words_of low ++ words_below shop u.makespan (words_of ns)) (sym none))
    in joined_at shop c.args.order (stands u) low others _ (λ i. record (stands u) { open_words = words i }) at.makespan
    (subst (AreNodes shop) (sym all) at.bounds) (subst (AreNodes shop) (sym none) (λ k d h. absurd (omega arith)))
    c.new-open.ensures.order
    (subst (λ ns. IsInOrder shop c.args.order (words_of ns)) (sym none) (none_in_order shop c.args.order))
    (record {
      kept = put.0;
      open_nodes = grind arith;
    })

pub returns-clause-all : goal.returns-clause-all
returns-clause-all c = λ b.
    let first = c.none-distant.result
    in let added = c.in_ok-put_nodes.ensures.counted b
    in let none = ap (count_of b) (none_within first.horizon c.args.standing.makespan c.as_slice.result.now
    (let e = c.none-distant.ensures.horizon in omega arith))
    in let empty = ap (λ xs. get_or xs b 0) c.none-distant.ensures.counts
    in omega arith
