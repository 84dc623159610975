use Rattle.shop_model.proofs.ClearIntervalLemmas.{ClearSoFar}
use Rattle.shop_model.proofs.intervals.keep_clear.Given as goal

abbrev pub invariant-loop-k : goal.invariant-loop-k
invariant-loop-k l = ClearSoFar l.initial.intervals.items l.intervals.items l.k l.count l.latest
