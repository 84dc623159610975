use Rattle.shop_model.specs.Checking.{starts_of}
use Rattle.shop_text.specs.inner.Cells.{ShowsJobs}
use Rattle.shop_text.proofs.gantts.show_machine.Given as goal

abbrev pub invariant-loop-j : goal.invariant-loop-j
invariant-loop-j l = ShowsJobs l.instance (starts_of l.table) l.machine l.unit l.cells l.j
