use Rattle.std.proofs.Common.{ℕ, ◌≡◌, ◌+◌, ◌-◌, get_or}
use Rattle.shop_runs.proofs.distant_nodes.DistantNodes.add.Given as goal

abbrev pub invariant-loop-self : goal.invariant-loop-self
invariant-loop-self l = record {
  horizon : l.self.horizon ≡ l.fn.self.horizon;
  counts : (b : ℕ) → get_or l.self.counts.items b 0 ≡ get_or l.fn.self.counts.items b 0;
}

abbrev pub decreases-loop-self : goal.decreases-loop-self
decreases-loop-self l = l.index + 1 - l.self.counts.len
