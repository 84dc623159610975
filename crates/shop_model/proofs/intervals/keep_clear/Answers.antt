use Rattle.std.proofs.Common.{arith}
use Rattle.shop_model.proofs.ClearIntervalLemmas.{clear_more, clear_not_more}
use Rattle.shop_model.proofs.intervals.keep_clear.Goals as goal
use Rattle.shop_model.proofs.intervals.keep_clear.Goals.{then-is_kept, else-is_kept}

pub loop-k-preserved : goal.loop-k-preserved
loop-k-preserved c =
    let xs = c.args.intervals.now.items
    in let ys = c.loop-k.intervals.items
    in let so_far = c.loop-k.invariant
    in let long = so_far.long
    in let ends = c.last_to_end-latest.ensures
    in let last = c.last_to_end-latest.result
    in let one = c.index.result.now
    in elim c.if-is_kept.branch [
      | then-is_kept w ↦ rw (w.intervals-is, w.count-is)
          (clear_more xs ys c.loop-k.k c.loop-k.count c.loop-k.latest one last so_far c.index.ensures (omega arith)
          ends.one ends.other c.requires
          (rw c.as_slice.ensures.value at (c.is_clear-is_kept.ensures.0 w.if-is_kept.true)))
      | else-is_kept w ↦ rw (w.intervals-is, w.count-is)
          (clear_not_more xs ys c.loop-k.k c.loop-k.count c.loop-k.latest one last so_far c.index.ensures (omega arith)
          ends.one ends.other)
    ]
