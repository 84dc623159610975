use Rattle.std.{proofs.Common.{◌≡◌, ◌≤◌, drop, length}, specs.Arc.arc_slice_items}
use Rattle.shop_nodes.specs.{Nodes.{words_of, AreNodes}, Halts.stack_words}
use Rattle.shop_nodes.proofs.left.pending_nodes.Given as goal

abbrev pub invariant-loop-index : goal.invariant-loop-index
invariant-loop-index l = record {
  within : l.index ≤ length l.pending;
  words : words_of l.nodes.items
      ≡ stack_words l.instance (arc_slice_items l.halt.path) (drop l.index l.pending);
  made : AreNodes l.instance l.nodes.items;
}
