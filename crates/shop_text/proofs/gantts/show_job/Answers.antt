use Rattle.std.proofs.Common.{◌+◌, ◌*◌, sym, subst}
use Rattle.shop_model.specs.Checking.{starts_of}
use Rattle.shop_text.specs.inner.Cells.{ShowsWhere, serves_below}
use Rattle.shop_text.proofs.CellLemmas.{AreOfJob, step_shown, step_skipped}
use Rattle.shop_text.proofs.gantts.show_job.Goals as goal
use Rattle.shop_text.proofs.gantts.show_job.Goals.{then-route-k, else-route-k}

pub loop-k-preserved : goal.loop-k-preserved
loop-k-preserved c =
    let a = c.args
    in let shop = a.instance.now
    in let rows = a.table.now
    in let own : AreOfJob a.instance.now a.table.now a.j c.route-route.result.now c.row-starts.result.now =
    record { route_is = c.route-route.ensures.route; row_is = c.row-starts.ensures.row }
    in let character = c.character-character.result
    in elim c.if-route-k.branch [
      | then-route-k w ↦ subst
          (λ cells. ShowsWhere a.cells.now cells character (λ column. serves_below shop (starts_of rows) a.machine
          (column * a.unit) a.j (c.loop-k.k + 1))) (sym w.cells-is)
          (step_shown shop rows a.j c.route-route.result.now c.row-starts.result.now own a.cells.now c.loop-k.cells
          w.show.new.cells a.machine a.unit character c.loop-k.k w.div_ceil-from.result w.div_ceil-to.result
          c.requires.unit c.loop-k.auto.cells c.loop-k.invariant w.if-route-k.true w.div_ceil-from.ensures
          w.div_ceil-to.ensures w.show.ensures)
      | else-route-k w ↦ subst
          (λ cells. ShowsWhere a.cells.now cells character (λ column. serves_below shop (starts_of rows) a.machine
          (column * a.unit) a.j (c.loop-k.k + 1))) (sym w.cells-is)
          (step_skipped shop rows a.j c.route-route.result.now c.row-starts.result.now own a.cells.now c.loop-k.cells
          a.machine a.unit character c.loop-k.k c.loop-k.invariant w.if-route-k.false)
    ]
