use Rattle.std.proofs.Common.{◌≡◌, ◌++◌, map, take}
use Rattle.shop_layout.specs.Legs.{leg_of}
use Rattle.shop_layout.proofs.legs.add_route.Given as goal

abbrev pub invariant-loop-position : goal.invariant-loop-position
invariant-loop-position l =
    l.legs.items ≡ l.fn.legs.items ++ map (leg_of l.machines l.times) (take l.position-index l.positions)
