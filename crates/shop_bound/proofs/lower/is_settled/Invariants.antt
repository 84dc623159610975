use Rattle.std.proofs.Common.{ℕ, ◌<◌, ◌≤◌}
use Rattle.shop_bound.specs.inner.Thresholds.{span_above}
use Rattle.shop_bound.proofs.lower.is_settled.Given as goal

abbrev pub invariant-loop : goal.invariant-loop
invariant-loop l = record {
  settled : (head tail : ℕ) → head < l.from → span_above l.triples head tail ≤ l.bound;
  low : l.from ≤ l.greatest;
}
