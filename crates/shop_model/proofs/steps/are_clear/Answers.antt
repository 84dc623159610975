use Rattle.std.proofs.Common.{inl, inr}
use Rattle.shop_model.proofs.{Merging.{clear_first, clear_second}, steps.are_clear.Goals.else-route-k-via-else-route-k}
use Rattle.shop_model.proofs.steps.are_clear.Goals as goal
use Rattle.shop_model.proofs.steps.are_clear.Goals.{else-route-k-via-then-route-k+then-row-k+else-other_row-l}
use Rattle.shop_model.proofs.steps.are_clear.Goals.{else-route-k-via-then-route-k+else-row-k}

pub loop-k-preserved-then-finish-other_finish : goal.loop-k-preserved-then-finish-other_finish
loop-k-preserved-then-finish-other_finish c =
    clear_first c.args.route.now c.args.row.now c.args.others.now c.args.other_row.now c.loop-k.k c.loop-k.l
    c.loop-k.invariant (elim c.else-route-k.branch [
      | else-route-k-via-then-route-k+then-row-k+else-other_row-l w ↦ (λ same. inl w.if-other_row-l.false)
      | else-route-k-via-then-route-k+else-row-k w ↦ (λ same. inr w.if-row-k.false)
      | else-route-k-via-else-route-k w ↦ (λ same. absurd (w.if-route-k.false same))
    ]) c.requires.others_in_order c.if-finish-other_finish.true

pub loop-k-preserved : goal.loop-k-preserved
loop-k-preserved c =
    clear_second c.args.route.now c.args.row.now c.args.others.now c.args.other_row.now c.loop-k.k c.loop-k.l
    c.loop-k.invariant (elim c.else-route-k.branch [
      | else-route-k-via-then-route-k+then-row-k+else-other_row-l w ↦ (λ same. inl w.if-other_row-l.false)
      | else-route-k-via-then-route-k+else-row-k w ↦ (λ same. inr w.if-row-k.false)
      | else-route-k-via-else-route-k w ↦ (λ same. absurd (w.if-route-k.false same))
    ]) c.requires.in_order c.if-finish-other_finish.false
