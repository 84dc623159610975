-- Where a node is put among nodes in order of their bounds.
--     IsIndexFor bound nodes i  all nodes before index i have bounds below this one, and the node at i, if any, has not
use Rattle.std.specs.Prelude.{ℕ, ◌≤◌, ◌<◌, List, length, slice_index_or}
use Rattle.shop_nodes.specs.declared.nodes.Node.{Node}

pub record IsIndexFor (bound : ℕ) (nodes : List Node) (i : ℕ) : Type 0 where
  pub within : i ≤ length nodes
  pub before : (k : ℕ) (d : Node) → k < i → (slice_index_or nodes k d).bound < bound
  pub at_it : (d : Node) → i < length nodes → bound ≤ (slice_index_or nodes i d).bound
