use Rattle.std.proofs.Common.{length}
use Rattle.shop_states.proofs.LaneChoices.{AreGathering}
use Rattle.shop_states.proofs.lane_choices.gather_marked.Given as goal

abbrev pub invariant-loop-position : goal.invariant-loop-position
invariant-loop-position g l = AreGathering l.grid l.fn.marked l.left l.fn.jobs l.jobs

abbrev pub decreases-loop-position : goal.decreases-loop-position
decreases-loop-position g l = length l.left
