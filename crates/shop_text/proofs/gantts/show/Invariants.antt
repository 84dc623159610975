use Rattle.std.proofs.Common.{◌&&◌, leb, ltb}
use Rattle.shop_text.specs.inner.Cells.{ShowsWhere}
use Rattle.shop_text.proofs.gantts.show.Given as goal

abbrev pub invariant-loop-column : goal.invariant-loop-column
invariant-loop-column l = ShowsWhere l.fn.cells l.cells l.character (λ c. leb l.from c && ltb c l.column)
