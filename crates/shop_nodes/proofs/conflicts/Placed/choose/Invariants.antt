use Rattle.shop_nodes.{specs.inner.Choosing.{placing_of, IsChoice}, proofs.ChoosingLemmas.open_below}
use Rattle.shop_nodes.proofs.conflicts.Placed.choose.Given as goal

abbrev pub invariant-loop-job : goal.invariant-loop-job
invariant-loop-job l = IsChoice l.self.instance.now (placing_of l.self)
    (open_below l.self.instance.now (placing_of l.self) l.job) l.chosen
