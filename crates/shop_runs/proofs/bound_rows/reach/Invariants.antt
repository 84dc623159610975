use Rattle.std.proofs.Common.{◌≡◌, ◌+◌, ◌-◌, ◌≤◌, vec_len}
use Rattle.shop_runs.specs.inner.{Stacks.nodes_in_row, BoundRows.StaysEmpty}
use Rattle.shop_runs.proofs.bound_rows.reach.Given as goal

abbrev pub invariant-loop-stacks : goal.invariant-loop-stacks
invariant-loop-stacks l = record {
  len : vec_len l.fn.stacks ≤ vec_len l.stacks;
  nodes : nodes_in_row 0 l.stacks.items ≡ nodes_in_row 0 l.fn.stacks.items;
  empty : StaysEmpty l.fn.stacks.items l.stacks.items;
}

abbrev pub decreases-loop-stacks : goal.decreases-loop-stacks
decreases-loop-stacks l = l.index + 1 - vec_len l.stacks
