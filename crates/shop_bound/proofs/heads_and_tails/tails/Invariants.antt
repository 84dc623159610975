use Rattle.std.{proofs.Common.{◌≡◌, ◌≤◌, length, map, vec_len, vec_capacity}, specs.List.range_with_len}
use Rattle.shop_model.specs.Shop.{route_of}
use Rattle.shop_bound.specs.Heads.{tail_of}
use Rattle.shop_bound.proofs.heads_and_tails.tails.Given as goal

abbrev pub invariant-loop-j : goal.invariant-loop-j
invariant-loop-j l = record {
  filled : map (λ row. row.items) l.rows.items
      ≡ map (λ j. map (tail_of l.instance j) (range_with_len 0 (length (route_of l.instance j))))
      (range_with_len 0 l.j);
  long : vec_len l.rows ≡ l.j;
  room : length l.instance.jobs ≤ vec_capacity l.rows;
}
