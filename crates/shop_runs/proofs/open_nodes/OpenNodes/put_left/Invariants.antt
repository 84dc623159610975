use Rattle.shop_runs.{specs.inner.Outcomes.left_open, proofs.PutLemmas.IsLeftToPut}
use Rattle.shop_runs.proofs.open_nodes.OpenNodes.put_left.Given as goal

abbrev pub invariant-loop-of_sheet : goal.invariant-loop-of_sheet
invariant-loop-of_sheet l = IsLeftToPut l.makespan (left_open l.fn.left.items) l.fn.self l.fn.distant
    (left_open l.left.items) l.self l.distant

abbrev pub decreases-loop-of_sheet : goal.decreases-loop-of_sheet
decreases-loop-of_sheet l = l.left.len
