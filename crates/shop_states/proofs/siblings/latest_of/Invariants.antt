use Rattle.shop_states.{specs.inner.Siblings.end_by, proofs.LatestEnds.AreLatestOf}
use Rattle.shop_states.proofs.siblings.latest_of.Given as goal

abbrev pub invariant-loop-index : goal.invariant-loop-index
invariant-loop-index g l = AreLatestOf (end_by (g.L.StateLanes.heads l.lanes) l.routes.times l.next) l.candidates
    l.index l.latest
