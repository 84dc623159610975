use Rattle.std.{proofs.Common.{◌≡◌, ◌+◌, ◌*◌, ◌-◌, ◌≤◌, length, map, vec_len, vec_capacity}, specs.List.range_with_len}
use Rattle.shop_model.specs.{Word.Placing, Placements.IsPlacement}
use Rattle.shop_bound.specs.Heads.{head_if_left, ready_after}
use Rattle.shop_bound.proofs.heads_and_tails.heads_of_job.Given as goal

abbrev pub invariant-loop-k : goal.invariant-loop-k
invariant-loop-k l = record {
  filled : (p : Placing) → IsPlacement l.instance p l.placement
      → l.heads.items ≡ map (head_if_left l.instance p l.j) (range_with_len 0 l.k);
  ready : (p : Placing) → IsPlacement l.instance p l.placement
      → l.ready ≡ ready_after l.instance p l.j (l.k - p.steps l.j);
  small : l.ready ≤ 1000000000000000 + l.k * 1000000000;
  long : vec_len l.heads ≡ l.k;
  room : length l.route ≤ vec_capacity l.heads;
}
