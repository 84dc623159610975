use Rattle.std.proofs.Common.{ℕ, ◌≡◌, ◌+◌, drop, get_or}
use Rattle.shop_runs.specs.inner.{Distant.count_of, Stacks.nodes_in_row}
use Rattle.shop_runs.proofs.bound_rows.count_from.Given as goal

abbrev pub invariant-loop-index : goal.invariant-loop-index
invariant-loop-index l = record {
  horizon : l.distant.horizon ≡ l.fn.distant.horizon;
  counts : (b : ℕ) → get_or l.distant.counts.items b 0 + count_of b (nodes_in_row l.index (drop l.index l.stacks))
      ≡ get_or l.fn.distant.counts.items b 0 + count_of b (nodes_in_row l.from (drop l.from l.stacks));
}
