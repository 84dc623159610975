use Rattle.shop_bound.proofs.LowerBounds.{HasBounded}
use Rattle.shop_bound.proofs.lower.BoundRoom.bound.Given as goal

abbrev pub invariant-loop-machine : goal.invariant-loop-machine
invariant-loop-machine l = HasBounded l.instance l.placement l.machine l.bound l.self
