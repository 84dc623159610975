use Rattle.std.{proofs.Common.{◌≡◌, ◌≤◌, drop, length, map, vec_len, vec_capacity}, specs.List.{range_with_len, sum_by}}
use Rattle.shop_bound.specs.Heads.{tail_in}
use Rattle.shop_bound.proofs.heads_and_tails.tails_of_route.Given as goal

abbrev pub invariant-loop-op : goal.invariant-loop-op
invariant-loop-op l = record {
  tail : l.tail ≡ sum_by (λ o. o.time) (drop l.op-index l.route);
  filled : l.tails.items ≡ map (tail_in l.route) (range_with_len 0 l.op-index);
  long : vec_len l.tails ≡ l.op-index;
  room : length l.route ≤ vec_capacity l.tails;
}
