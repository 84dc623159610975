use Rattle.std.{proofs.Common.{◌≡◌, ◌≤◌, [], length}, specs.BinaryHeap.{heap_capacity, heap_items, heap_len}}
use Rattle.shop_bound.proofs.QueueTurns.{AreListed}
use Rattle.shop_bound.proofs.queues.Queue.fill.Given as goal

abbrev pub invariant-loop-i : goal.invariant-loop-i
invariant-loop-i l = record {
  listed : AreListed l.triples l.i (heap_items l.self.coming);
  count : heap_len l.self.coming ≡ l.i;
  room : length l.triples ≤ heap_capacity l.self.coming;
  grown : heap_capacity l.fn.self.coming ≤ heap_capacity l.self.coming;
  released : heap_items l.self.released ≡ [];
  none : heap_len l.self.released ≡ 0;
  kept : heap_capacity l.self.released ≡ heap_capacity l.fn.self.released;
}
