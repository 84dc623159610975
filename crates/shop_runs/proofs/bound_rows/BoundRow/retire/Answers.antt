use Rattle.std.{proofs.Common.{◌≡◌, ◌+◌, take, drop, min, sym, ◌∙◌, ap, subst, arith}, specs.Prelude.IfSome}
use Rattle.std.proofs.lemmas.Grind.{common_steps}
use Rattle.shop_runs.specs.declared.distant_nodes.DistantNodes.{DistantNodes}
use Rattle.shop_runs.specs.inner.{BoundRows.IsBehind, Stacks.nodes_in_row}
use Rattle.shop_runs.specs.inner.Distant.{count_of, IsCountable, AreAdded, IsRetired}
use Rattle.shop_runs.proofs.{BoundRowLemmas.{cut_empty, retired_row, row_split}, DistantLemmas.count_append}
use Rattle.shop_runs.proofs.bound_rows.BoundRow.retire.Goals as goal

pub returns : goal.returns
returns c =
    let os = c.self.inside.stacks.items
    in let end = c.in-Some.end
    in let first = c.self.inside.first
    in let most = c.args.most
    in let distant = c.args.distant.now
    in let later : DistantNodes = record { horizon = c.min-distant.result; counts = c.count_from.new.distant.counts }
    in let found = subst (λ o. IfSome o (IsBehind first most c.as_slice.result.now)) c.in-Some.is
    c.in_ok-behind.ensures.behind
    in let behind : IsBehind first most os end = subst (λ s. IsBehind first most s end) c.as_slice.ensures.value found
    in let added : AreAdded (nodes_in_row end (drop end os)) distant.counts.items later.counts.items =
    subst (λ s. AreAdded (nodes_in_row end
    (drop end s)) distant.counts.items later.counts.items) c.as_slice-2.ensures.value
    c.in_ok-count_from.ensures.added
    in let row = retired_row most first end os distant later behind added
    (c.min-distant.ensures ∙ ap (λ h. min h end) c.in_ok-count_from.ensures.horizon)
    in subst (λ ns. IsRetired most ns distant (nodes_in_row 0 c.set_aside.new.stacks.items) later) c.self.view_is
    (subst (λ ns. IsRetired most (nodes_in_row 0 os) distant ns later)
    (ap (nodes_in_row 0) (sym (c.set_aside.ensures.left ∙ ap (λ k. take k os) c.in_ok-set_aside.ensures.cut))) row)

pub invariant_of-self-in_err-set_aside : goal.invariant_of-self-in_err-set_aside
invariant_of-self-in_err-set_aside c =
    let behind = subst (λ o. IfSome o (IsBehind c.self.inside.first c.args.most c.as_slice.result.now)) c.in-Some.is
    c.in_ok-behind.ensures.behind
    in grind (arith, cut_empty)

pub invariant_of-self-2 : goal.invariant_of-self-2
invariant_of-self-2 c = grind (arith, common_steps)

pub count_from-requires : goal.count_from-requires
count_from-requires c =
    let os = c.self.inside.stacks.items
    in let end = c.in-Some.end
    in let counts = c.args.distant.now.counts.items
    in λ b. subst (λ s. IsCountable b (count_of b (nodes_in_row end (drop end s))) counts)
    (sym c.as_slice-2.ensures.value)
    (let e = c.requires b
    in let f = ap (count_of b) (sym c.self.view_is)
    in let g = ap (count_of b) (row_split end 0 os)
    in let h = count_append b (nodes_in_row 0 (take end os)) (nodes_in_row (0 + end) (drop end os))
    in let same : 0 + end ≡ end = omega arith
    in let k = ap (λ i. count_of b (nodes_in_row i (drop end os))) same
    in omega arith)
