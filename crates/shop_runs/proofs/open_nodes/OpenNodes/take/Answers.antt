use Rattle.std.proofs.Common.{sym, ◌∙◌, subst, arith}
use Rattle.shop_runs.{specs.inner.Stores.{open_list, HasPopped}, proofs.PieceLemmas.{take_next, all_taken}}
use Rattle.shop_runs.proofs.open_nodes.OpenNodes.take.Goals as goal

pub loop-preserved : goal.loop-preserved
loop-preserved c =
    let popped = subst (λ o. HasPopped o c.loop.self c.pop.new.self) c.in-Some.is c.in_ok-node.ensures
    in let next = take_next (open_list c.args.self.now) c.loop.taken.items (open_list c.loop.self)
    (open_list c.pop.new.self) c.in-Some.node c.loop.counter c.loop.invariant.taken c.loop.invariant.left popped.1
    in grind arith

pub returns-in_default : goal.returns-in_default
returns-in_default c =
    let popped = subst (λ o. HasPopped o c.loop.self c.pop.new.self) c.in_default.is c.in_ok-node.ensures
    in let was = c.loop.invariant
    in let all = all_taken (open_list c.args.self.now) c.loop.counter c.args.most (sym was.left ∙ popped.1.0)
    (omega arith)
    in (popped.0 ∙ was.order, was.taken ∙ all.0, popped.1.1 ∙ all.1)

pub returns-after-loop : goal.returns-after-loop
returns-after-loop c = grind arith
