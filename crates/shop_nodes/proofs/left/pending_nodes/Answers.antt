use Rattle.std.proofs.{Common.{◌≡◌, ◌+◌, ◌-◌, ◌∙◌, drop, sym, ap, subst, arith}, lemmas.List.Elements.All-append}
use Rattle.std.{proofs.lemmas.Grind.common_steps, specs.Arc.arc_slice_items}
use Rattle.shop_nodes.{specs.{Nodes.{words_of, IsNode, AreNodes}, Halts.stack_words}, proofs.LeftLemmas.all_more}
use Rattle.shop_nodes.proofs.left.pending_nodes.Goals as goal

pub loop-index-preserved : goal.loop-index-preserved
loop-index-preserved c =
    let shop = c.args.instance.now
    in let path = arc_slice_items c.args.halt.now.path
    in let now = c.loop-index.invariant
    in let pending = c.as_slice-pending.result.now
    in let k = c.loop-index.index - 1
    in let some = c.loop-index-test.true
    in let within = now.within
    in let nodes = c.loop-index.nodes.items
    in let one : c.loop-index.index ≡ k + 1 = omega arith
    in let words : words_of nodes ≡ stack_words shop path (drop (k + 1) pending) =
    now.words ∙ ap (λ i. stack_words shop path (drop i pending)) one
    in record {
      within = omega arith;
      words = all_more shop path pending k _ nodes c.append.new.self.items c.in_ok-next.next.items (omega arith)
          words c.in_ok-next.ensures.words c.in_ok-append.ensures.items;
      made = subst (AreNodes shop) (sym c.in_ok-append.ensures.items)
          (All-append (IsNode shop) nodes c.in_ok-next.next.items now.made c.in_ok-next.ensures.nodes);
    }

pub nodes_of-requires : goal.nodes_of-requires
nodes_of-requires c = grind (arith, common_steps)
