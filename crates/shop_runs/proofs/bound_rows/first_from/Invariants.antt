use Rattle.std.proofs.Common.{◌≡◌, drop}
use Rattle.shop_runs.specs.inner.Stacks.{nodes_in_row}
use Rattle.shop_runs.proofs.bound_rows.first_from.Given as goal

abbrev pub invariant-loop-index : goal.invariant-loop-index
invariant-loop-index l =
    nodes_in_row l.from (drop l.from l.stacks) ≡ nodes_in_row l.index (drop l.index l.stacks)
