use Rattle.std.proofs.Common.{arith, Some, subst}
use Rattle.shop_nodes.specs.inner.Choosing.{placing_of, IsChoice}
use Rattle.shop_nodes.proofs.ChoosingLemmas.{open_below, open-skip, open-more, choice-first, choice-sooner, choice-kept}
use Rattle.shop_nodes.proofs.conflicts.Placed.choose.Goals.{in-Some-chosen+else-best-next, in_default-chosen}
use Rattle.shop_nodes.proofs.conflicts.Placed.choose.Goals as goal

pub loop-job-preserved-in_default : goal.loop-job-preserved-in_default
loop-job-preserved-in_default c = grind (arith, open-skip)

pub loop-job-preserved-then-best-next : goal.loop-job-preserved-then-best-next
loop-job-preserved-then-best-next c =
    let shop = c.args.self.now.instance.now
    in let p = placing_of c.args.self.now
    in let j = c.loop-job.job
    in let before : IsChoice shop p (open_below shop p j) (Some c.in-Some-chosen.best) = subst
    (IsChoice shop p (open_below shop p j)) c.in-Some-chosen.is c.loop-job.invariant
    in rw (open-more shop p j c.in-Some.ensures.operation)
    (choice-kept shop p (open_below shop p j) j c.in-Some-chosen.best c.in-Some.next before c.in-Some.ensures
    c.if-best-next.true)

pub loop-job-preserved : goal.loop-job-preserved
loop-job-preserved c = grind (arith, open-more, choice-sooner, in_default-chosen, choice-first)
