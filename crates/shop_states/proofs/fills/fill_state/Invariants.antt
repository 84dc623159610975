use Rattle.shop_model.specs.{Placements.IsPlacement, Word.Placing}
use Rattle.shop_states.specs.inner.LaidLanes.{rows_in}
use Rattle.shop_states.proofs.{FilledJobs.AreNextsSet, FillTurns.AreFilledUpTo, PlacedNexts.placement_at}
use Rattle.shop_states.proofs.fills.fill_state.Given as goal

abbrev pub invariant-loop-job : goal.invariant-loop-job
invariant-loop-job g l = record {
  filled : AreFilledUpTo l.laid_out.shop l.laid_out.layout
      (placement_at l.laid_out.layout l.initial.next l.ready l.free) l.job
      (rows_in g.L.StateLanes l.laid_out.layout l.initial.lanes) (rows_in g.L.StateLanes l.laid_out.layout l.lanes);
  nexts : (p : Placing) → IsPlacement l.laid_out.shop p
      (placement_at l.laid_out.layout l.initial.next l.ready l.free)
      → AreNextsSet l.laid_out.shop l.laid_out.layout p l.job l.initial.next l.next
      (g.L.StateLanes.ends l.initial.lanes) (g.L.StateLanes.ends l.lanes);
}
