use Rattle.std.{proofs.Common.{get_or, refl, ◌∙◌, ap, subst, arith}, specs.Prelude.unwrap_or}
use Rattle.shop_nodes.proofs.LeftLemmas.{can_be_shared}
use Rattle.shop_runs.specs.inner.{Distant.{count_of, ArePutOrCounted}, Outcomes.left_open}
use Rattle.shop_runs.proofs.GatheredLemmas.{stands_gathered, gathered_standing, gathered_covering}
use Rattle.shop_runs.proofs.{DistantLemmas.none_within, PutLemmas.{all_gathered, none_fit}}
use Rattle.shop_runs.proofs.outcomes.gather.Goals as goal

pub put_nodes-requires-clause-words : goal.put_nodes-requires-clause-words
put_nodes-requires-clause-words c = grind (arith, can_be_shared)

pub put_nodes-requires-clause-fits : goal.put_nodes-requires-clause-fits
put_nodes-requires-clause-fits c = none_fit c.in_ok-found.field-0.makespan c.as_slice.result.now c.none-distant.result
    (let e = c.none-distant.ensures.horizon in omega arith)
    (λ b. ap (λ xs. get_or xs b 0) c.none-distant.ensures.counts)

pub put_left-requires : goal.put_left-requires
put_left-requires c =
    let o = c.in_ok-found.field-0
    in let put = c.in_ok-put_nodes.ensures
    in let first = c.none-distant.ensures.horizon
    in let low = put.horizon
    in none_fit o.makespan (left_open o.left.items) c.put_nodes.new.distant (omega arith) (λ b. (
    let e = put.counted b
    in let f = ap (λ xs. get_or xs b 0) c.none-distant.ensures.counts
    in let g = ap (count_of b)
    (none_within c.none-distant.result.horizon o.makespan c.as_slice.result.now (omega arith))
    in omega arith
    ))

pub returns-clause-gathered : goal.returns-clause-gathered
returns-clause-gathered c =
    let r = c.args.round.now
    in let o = c.in_ok-found.field-0
    in let rest = subst (λ ns. ArePutOrCounted o.makespan ns c.new-store.result c.none-distant.result
    c.put_nodes.new.self c.put_nodes.new.distant) c.as_slice.ensures.value c.in_ok-put_nodes.ensures
    in let kept = all_gathered o.makespan (left_open o.left.items) r.rest.items c.new-store.result c.put_nodes.new.self
    c.put_left.new.self c.none-distant.result c.put_nodes.new.distant c.put_left.new.distant c.new-store.ensures.none
    c.new-store.ensures.order c.none-distant.ensures.horizon rest c.in_ok-put_left.ensures
    in stands_gathered r o _ c.in_ok-found.ensures (c.unwrap_or.ensures ∙ ap (unwrap_or o.found) c.in_ok-best.ensures)
    refl (c.in_ok-open.ensures.taken ∙ kept) refl refl

pub returns-clause-standing : goal.returns-clause-standing
returns-clause-standing c = gathered_standing c.args.round.now _ (returns-clause-gathered c)

pub returns-clause-covers : goal.returns-clause-covers
returns-clause-covers c = gathered_covering c.args.round.now _ (returns-clause-gathered c)

pub invariant_of-result : goal.invariant_of-result
invariant_of-result c = grind arith
