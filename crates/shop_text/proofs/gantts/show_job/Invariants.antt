use Rattle.std.proofs.Common.{◌*◌}
use Rattle.shop_model.specs.Checking.{starts_of}
use Rattle.shop_text.specs.inner.Cells.{ShowsWhere, serves_below}
use Rattle.shop_text.proofs.gantts.show_job.Given as goal

abbrev pub invariant-loop-k : goal.invariant-loop-k
invariant-loop-k l = ShowsWhere l.fn.cells l.cells l.character
    (λ c. serves_below l.instance (starts_of l.table) l.machine (c * l.unit) l.j l.k)
