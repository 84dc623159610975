use Rattle.std.proofs.Common.{◌≡◌, ℕ, ◌+◌, ◌<◌, length, get_or, take}
use Rattle.shop_bound.specs.inner.MachineLists.{visits}
use Rattle.shop_bound.proofs.machine_lists.add_visits.Given as goal

abbrev pub invariant-loop-op : goal.invariant-loop-op
invariant-loop-op l = record {
  long : length l.counts ≡ length l.fn.counts;
  counted : (m : ℕ) → m < length l.fn.counts
      → get_or l.counts m 0 ≡ get_or l.fn.counts m 0 + visits m (take l.op-index l.route);
}
