use Rattle.std.{proofs.Common.{◌≡◌, ◌≤◌, take}, specs.Prelude.vec_len}
use Rattle.shop_runs.proofs.bound_rows.set_aside.Given as goal

abbrev pub invariant-loop-stacks : goal.invariant-loop-stacks
invariant-loop-stacks l = record {
  many : l.end ≤ vec_len l.stacks;
  left : l.stacks.items ≡ take (vec_len l.stacks) l.fn.stacks.items;
}

abbrev pub decreases-loop-stacks : goal.decreases-loop-stacks
decreases-loop-stacks l = vec_len l.stacks
