use Rattle.std.proofs.Common.{◌≤◌, take, length}
use Rattle.shop_runs.proofs.PutLemmas.{IsLeftToPut}
use Rattle.shop_runs.proofs.open_nodes.OpenNodes.put_nodes.Given as goal

abbrev pub invariant-loop-left : goal.invariant-loop-left
invariant-loop-left l = record {
  within : l.left ≤ length l.nodes;
  rest : IsLeftToPut l.limit l.nodes l.fn.self l.fn.distant (take l.left l.nodes) l.self l.distant;
}

abbrev pub decreases-loop-left : goal.decreases-loop-left
decreases-loop-left l = l.left
