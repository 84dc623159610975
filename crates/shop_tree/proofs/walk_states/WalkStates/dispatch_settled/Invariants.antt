use Rattle.std.proofs.Common.{◌≡◌}
use Rattle.shop_tree.proofs.walk_states.WalkStates.dispatch_settled.Given as goal

abbrev pub invariant-loop-index : goal.invariant-loop-index
invariant-loop-index g l = l.self ≡ l.fn.self
