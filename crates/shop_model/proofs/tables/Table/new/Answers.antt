use Rattle.std.proofs.Common.{arith, true≢false}
use Rattle.shop_model.proofs.TableLemmas.{starts_next, starts_at}
use Rattle.shop_model.proofs.tables.Table.new.Goals as goal

pub loop-row-preserved : goal.loop-row-preserved
loop-row-preserved c = grind (arith, starts_next)

pub returns-then-not-is_row_within-clause-none : goal.returns-then-not-is_row_within-clause-none
returns-then-not-is_row_within-clause-none c = grind (arith, true≢false, starts_at)
