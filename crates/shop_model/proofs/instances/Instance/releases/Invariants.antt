use Rattle.std.{proofs.Common.{◌≡◌, map}, specs.List.range_with_len}
use Rattle.shop_model.specs.Shop.{release_of}
use Rattle.shop_model.proofs.instances.Instance.releases.Given as goal

abbrev pub invariant-loop-j : goal.invariant-loop-j
invariant-loop-j l = l.releases.items ≡ map (release_of l.self) (range_with_len 0 l.j)
