use Rattle.std.proofs.Common.{ℕ, ◌<◌, slice_index_or}
use Rattle.shop_nodes.specs.declared.nodes.Node.{Node}
use Rattle.shop_nodes.proofs.child_nodes.index_for.Given as goal

abbrev pub invariant-loop-index : goal.invariant-loop-index
invariant-loop-index l = (k : ℕ) (d : Node) → k < l.index → (slice_index_or l.nodes k d).bound < l.bound
