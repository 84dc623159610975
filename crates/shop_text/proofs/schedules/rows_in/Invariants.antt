use Rattle.std.proofs.Common.{length}
use Rattle.shop_text.specs.inner.ScheduleReading.{IsReadSoFar, rows_held}
use Rattle.shop_text.proofs.schedules.rows_in.Given as goal

abbrev pub invariant-loop-rest : goal.invariant-loop-rest
invariant-loop-rest l = IsReadSoFar l.instance l.text l.number l.rest (rows_held l.rows)

abbrev pub decreases-loop-rest : goal.decreases-loop-rest
decreases-loop-rest l = length l.rest
