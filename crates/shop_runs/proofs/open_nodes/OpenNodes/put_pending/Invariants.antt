use Rattle.std.{proofs.Common.drop, specs.Arc.arc_slice_items}
use Rattle.shop_nodes.specs.inner.HeldNodes.{stack_nodes}
use Rattle.shop_runs.proofs.PutLemmas.{IsLeftToPut}
use Rattle.shop_runs.proofs.open_nodes.OpenNodes.put_pending.Given as goal

abbrev pub invariant-loop-pending : goal.invariant-loop-pending
invariant-loop-pending l =
    let path = arc_slice_items l.halt.path
    in let all = l.halt.pending.items
    in IsLeftToPut l.limit (stack_nodes path all) l.fn.self l.fn.distant
    (stack_nodes path (drop l.pending-index all)) l.self l.distant
