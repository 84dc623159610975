use Rattle.std.{proofs.Common.{◌≡◌, ◌≤◌, length, take}, specs.List.{filter, sum_by}}
use Rattle.shop_bound.specs.inner.Thresholds.{is_above}
use Rattle.shop_bound.proofs.triples.span_of_above.Given as goal

abbrev pub invariant-loop-t : goal.invariant-loop-t
invariant-loop-t l = record {
  count : l.count ≡ length (filter (is_above l.head l.tail) (take l.t-index l.triples));
  sum : l.sum ≡ sum_by (λ t. t.time) (filter (is_above l.head l.tail) (take l.t-index l.triples));
  few : l.count ≤ l.t-index;
  small : l.sum ≤ sum_by (λ t. t.time) (take l.t-index l.triples);
}
