use Rattle.std.{proofs.Common.◌≡◌, specs.List.filter}
use Rattle.shop_nodes.{specs.{Branching.conflicts_with, inner.Choosing.placing_of}, proofs.ChoosingLemmas.open_below}
use Rattle.shop_nodes.proofs.conflicts.Placed.conflicting.Given as goal

abbrev pub invariant-loop-job : goal.invariant-loop-job
invariant-loop-job l =
    let shop = l.self.instance.now
    in let p = placing_of l.self
    in l.jobs.items ≡ filter (conflicts_with shop p l.chosen.job) (open_below shop p l.job)
