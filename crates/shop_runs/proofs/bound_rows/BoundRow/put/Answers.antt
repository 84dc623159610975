use Rattle.std.proofs.{Common.{rules, arith, ◌+◌, ◌≡◌, ◌∷◌, ◌∙◌, ap, sym}, lemmas.Result.on_ok_weaker}
use Rattle.std.specs.Prelude.{slice_index_or}
use Rattle.shop_nodes.specs.{Branching.insert_by, declared.nodes.Node.Node}
use Rattle.shop_runs.specs.inner.Stacks.{words_at, nodes_in_row}
use Rattle.shop_runs.proofs.BoundRowLemmas.{lower_empty, still_empty, put_at}
use Rattle.shop_runs.proofs.bound_rows.BoundRow.put.Goals as goal

pub invariant_of-self-2 : goal.invariant_of-self-2
invariant_of-self-2 c = search (rules, still_empty, lower_empty)

pub returns : goal.returns
returns c =
    let os = c.reach.new.stacks.items
    in let parts = c.into_parts-word
    in let bound = parts.result.1
    in let word = parts.result.0
    in let o = c.push_at.new.bucket
    in let now = c.index_mut.result.now
    in let there : slice_index_or os bound now ≡ now = search rules
    in let same : 0 + bound ≡ bound = omega arith
    in on_ok_weaker c.push_at.result (λ pushed.
    let top : words_at o ≡ word ∷ words_at (slice_index_or os bound now) =
    pushed ∙ ap (λ x. word ∷ words_at x) (sym there)
    in put_at 0 bound os word o now (search rules) top
    ∙ (ap (λ b. insert_by (λ (n : Node). n.bound) (record { word = word; bound = b }) (nodes_in_row 0 os)) same
    ∙ ((λ i. insert_by (λ (n : Node). n.bound)
    (record { word = parts.ensures.word i; bound = parts.ensures.bound i }) (nodes_in_row 0 os))
    ∙ ap (insert_by (λ (n : Node). n.bound) c.args.node) (c.in_ok-reach.ensures.nodes ∙ c.self.view_is))))
    c.push_at.ensures
