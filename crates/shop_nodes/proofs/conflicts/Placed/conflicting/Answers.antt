use Rattle.std.proofs.Common.{arith, ◌≡◌, ◌++◌, ◌∷◌, ◌∙◌, [], true, false, sym, ap, append-nil}
use Rattle.shop_nodes.{specs.{Branching.conflicts_with, inner.Choosing.placing_of}, proofs.ChoosingLemmas.open-skip}
use Rattle.shop_nodes.proofs.ChoosingLemmas.{conflicts-is, conflict-step}
use Rattle.shop_nodes.proofs.conflicts.Placed.conflicting.Goals as goal

pub loop-job-preserved-in_default : goal.loop-job-preserved-in_default
loop-job-preserved-in_default c = grind (arith, open-skip)

pub loop-job-preserved-then-not-conflicts_with : goal.loop-job-preserved-then-not-conflicts_with
loop-job-preserved-then-not-conflicts_with c =
    let shop = c.args.self.now.instance.now
    in let p = placing_of c.args.self.now
    in let now = c.loop-job
    in let chosen = c.args.chosen
    in let test : conflicts_with shop p chosen.job now.job ≡ false =
    sym (conflicts-is shop p chosen.job now.job chosen c.in-Some.next c.requires c.in-Some.ensures)
    ∙ sym c.if-not-conflicts_with.ensures
    in now.invariant ∙ sym (conflict-step shop p chosen.job now.job false c.in-Some.ensures.operation test
    ∙ append-nil _)

pub loop-job-preserved : goal.loop-job-preserved
loop-job-preserved c =
    let shop = c.args.self.now.instance.now
    in let p = placing_of c.args.self.now
    in let now = c.loop-job
    in let chosen = c.args.chosen
    in let test : conflicts_with shop p chosen.job now.job ≡ true =
    sym (conflicts-is shop p chosen.job now.job chosen c.in-Some.next c.requires c.in-Some.ensures)
    ∙ sym c.if-not-conflicts_with.ensures
    in c.in_ok-push.ensures.items
    ∙ (ap (λ js. js ++ now.job ∷ []) now.invariant
    ∙ sym (conflict-step shop p chosen.job now.job true c.in-Some.ensures.operation test))
