use Rattle.std.{proofs.Common.{◌≡◌, ℕ, ◌<◌, get_or, length, map, take}, specs.List.flat_map}
use Rattle.shop_layout.specs.Legs.{route_legs}
use Rattle.shop_layout.proofs.legs.legs_of.Given as goal

abbrev pub invariant-loop-j : goal.invariant-loop-j
invariant-loop-j l = record {
  legs : l.legs.items
      ≡ flat_map (route_legs l.machines l.times l.end) (take l.j (map (λ v. v.items) l.step_positions));
  long : length l.firsts.items ≡ l.j;
  firsts : (i : ℕ) → i < l.j → get_or l.firsts.items i 0
      ≡ length (flat_map (route_legs l.machines l.times l.end) (take i (map (λ v. v.items) l.step_positions)));
}
