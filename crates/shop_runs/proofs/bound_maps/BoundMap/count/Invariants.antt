use Rattle.std.proofs.Common.{◌≡◌, ◌+◌, length}
use Rattle.shop_runs.specs.inner.Stacks.{nodes_by_bound}
use Rattle.shop_runs.proofs.bound_maps.BoundMap.count.Given as goal

abbrev pub invariant-loop-stack : goal.invariant-loop-stack
invariant-loop-stack l = l.count + length (nodes_by_bound l.stack-iterator) ≡ length l.self
