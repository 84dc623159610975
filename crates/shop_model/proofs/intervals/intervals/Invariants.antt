use Rattle.std.{proofs.Common.{◌≡◌, [], slice_index_or}, specs.{Prelude.flat_map, List.range_with_len}}
use Rattle.shop_model.specs.{Shop.route_of, inner.Intervals.intervals_at}
use Rattle.shop_model.proofs.intervals.intervals.Given as goal

abbrev pub invariant-loop-j : goal.invariant-loop-j
invariant-loop-j l = l.intervals.items
    ≡ flat_map (λ i. intervals_at (route_of l.instance i) (slice_index_or l.table i [])) (range_with_len 0 l.j)
