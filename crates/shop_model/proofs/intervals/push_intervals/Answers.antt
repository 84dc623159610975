use Rattle.std.proofs.{Common.{arith, append_assoc, refl}, lemmas.List.FromFn.map-range_with_len_more}
use Rattle.shop_model.specs.inner.Intervals.{interval_at}
use Rattle.shop_model.proofs.intervals.push_intervals.Goals as goal

pub loop-k-preserved : goal.loop-k-preserved
loop-k-preserved c =
    let k = c.loop-k.k
    in let more = map-range_with_len_more (interval_at c.args.route.now c.args.row.now) 0 k k (omega arith)
    in rw (c.in_ok-push.ensures.items, more, c.loop-k.invariant, append_assoc) refl
