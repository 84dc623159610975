use Rattle.std.proofs.Common.{◌≡◌, ◌≤◌, [], map, replicate, vec_len, vec_capacity}
use Rattle.shop_layout.{specs.Ranks.ranked, proofs.SlotLists.{HasJobs, IsSortedUpTo}}
use Rattle.shop_layout.proofs.slots.machine_slots.Given as goal

abbrev pub invariant-loop : goal.invariant-loop
invariant-loop l = record {
  empty : map (λ slots. slots.items) l.lists.items ≡ replicate l.counter [];
  long : vec_len l.lists ≡ l.counter;
  room : l.end ≤ vec_capacity l.lists;
}

abbrev pub invariant-loop-j : goal.invariant-loop-j
invariant-loop-j l = HasJobs (ranked l.ranks l.instance) l.j (map (λ slots. slots.items) l.lists.items)

abbrev pub invariant-loop-m : goal.invariant-loop-m
invariant-loop-m l = IsSortedUpTo (ranked l.ranks l.instance) l.m (map (λ slots. slots.items) l.lists.items)
