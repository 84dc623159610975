use Rattle.std.proofs.Common.{◌≡◌, ◌≤◌, length, map, take, vec_len, vec_capacity}
use Rattle.shop_bound.specs.OneMachine.{one}
use Rattle.shop_bound.proofs.lower.machine_bounds.Given as goal

abbrev pub invariant-loop-m : goal.invariant-loop-m
invariant-loop-m l = record {
  filled : l.bounds.items ≡ map (λ list. one list.items) (take l.m l.lists);
  long : vec_len l.bounds ≡ l.m;
  space : length l.lists ≤ vec_capacity l.bounds;
  room : l.jackson.room ≡ l.initial.jackson.room;
}
