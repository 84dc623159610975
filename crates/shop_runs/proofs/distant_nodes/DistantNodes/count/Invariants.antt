use Rattle.std.{proofs.Common.{◌≡◌, length}, specs.Prelude.List}
use Rattle.shop_nodes.specs.{declared.nodes.Node.Node, inner.HeldNodes.nodes_below}
use Rattle.shop_runs.specs.inner.Distant.{HaveCounts}
use Rattle.shop_runs.proofs.distant_nodes.DistantNodes.count.Given as goal

abbrev pub invariant-loop-count : goal.invariant-loop-count
invariant-loop-count l = (nodes : List Node) → HaveCounts l.self.counts.items nodes
    → l.all ≡ length (nodes_below l.count-index nodes)
