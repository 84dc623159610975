use Rattle.std.proofs.Common.{◌≡◌, length}
use Rattle.shop_model.specs.{Shop.{greatest_below, route_of, finish_of}, Checking.starts_of}
use Rattle.shop_model.proofs.checking.makespan.Given as goal

abbrev pub invariant-loop-j : goal.invariant-loop-j
invariant-loop-j l =
    l.end ≡ greatest_below l.j (λ j. greatest_below (length (route_of l.instance j))
    (λ k. finish_of l.instance (starts_of l.table) j k))
