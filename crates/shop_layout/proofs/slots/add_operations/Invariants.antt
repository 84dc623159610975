use Rattle.std.{proofs.Common.{◌≡◌, drop, length, map}, specs.List.sum_by}
use Rattle.shop_layout.{specs.Ranks.ranked_op, proofs.SlotLists.IsAddedTo}
use Rattle.shop_layout.proofs.slots.add_operations.Given as goal

abbrev pub invariant-loop-k : goal.invariant-loop-k
invariant-loop-k l = record {
  tail : l.tail ≡ sum_by (λ o. o.time) (drop l.k l.route);
  added : IsAddedTo (map (ranked_op l.ranks) l.route) l.job l.k (map (λ slots. slots.items) l.fn.lists)
      (map (λ slots. slots.items) l.lists);
  long : length l.lists ≡ length l.fn.lists;
}
