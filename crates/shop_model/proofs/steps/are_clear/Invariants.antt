use Rattle.std.proofs.Common.{◌+◌, ◌-◌, length}
use Rattle.shop_model.proofs.Merging.{ClearSoFar}
use Rattle.shop_model.proofs.steps.are_clear.Given as goal

abbrev pub decreases-loop-k : goal.decreases-loop-k
decreases-loop-k l = (length l.route - l.k) + (length l.others - l.l)

abbrev pub invariant-loop-k : goal.invariant-loop-k
invariant-loop-k l = ClearSoFar l.route l.row l.others l.other_row l.k l.l
