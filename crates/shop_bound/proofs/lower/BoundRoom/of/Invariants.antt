use Rattle.std.proofs.Common.{◌≡◌, take}
use Rattle.shop_bound.specs.inner.MachineLists.{rooms_in}
use Rattle.shop_bound.proofs.lower.BoundRoom.of.Given as goal

abbrev pub invariant-loop-count : goal.invariant-loop-count
invariant-loop-count l = rooms_in l.lists.items ≡ take l.count-index l.count-items
