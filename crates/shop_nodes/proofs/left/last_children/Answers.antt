use Rattle.std.proofs.{Common.{◌≡◌, ◌-◌, ℕ, suc, List, take, sym, subst, arith, rules}, lemmas.List.length-take-le}
use Rattle.std.proofs.lemmas.Grind.{common_steps}
use Rattle.shop_model.{specs.Word.IsFull, proofs.WordLengths.word_length}
use Rattle.shop_nodes.{specs.Walking.operations_left, proofs.{Counting.open_from, LeftLemmas.last_words}}
use Rattle.shop_nodes.proofs.LeftLemmas.{nodes_dropped}
use Rattle.shop_nodes.proofs.left.last_children.Goals as goal

pub of_path-requires : goal.of_path-requires
of_path-requires c = grind (arith, word_length)

pub children-requires-clause-open : goal.children-requires-clause-open
children-requires-clause-open c =
    let shop = c.args.instance.now
    in let w = take c.args.depth c.args.path.now
    in let own = c.requires
    in let short = own.short
    in let depth = own.depth
    in let long = length-take-le c.args.depth c.args.path.now depth
    in let e : operations_left shop w ≡ suc (operations_left shop w - 1) = omega arith
    in let is : c.in_ok-parent.parent.word ≡ w = search rules
    in subst (λ (v : List ℕ). IsFull shop v → ⊥) (sym is) (open_from shop w (operations_left shop w - 1) own.is_word e)

pub returns-clause-words : goal.returns-clause-words
returns-clause-words c = grind (arith, last_words)

pub returns-clause-nodes : goal.returns-clause-nodes
returns-clause-nodes c =
    nodes_dropped c.args.instance.now c.in_ok-all.all.items _ c.split_off.result c.in_ok-all.ensures.nodes
    c.split_off.ensures.tail

pub overflow_sub-len : goal.overflow_sub-len
overflow_sub-len c = grind (arith, common_steps)
