use Rattle.std.proofs.Common.{arith, inl, inr, refl}
use Rattle.shop_states.{specs.inner.Siblings.end_by, proofs.LatestEnds.{ends_earlier, ends_later, ends_second}}
use Rattle.shop_states.proofs.siblings.latest_of.Goals.{then-end-latest, else-end-latest+else-job-latest}
use Rattle.shop_states.proofs.siblings.latest_of.Goals.{else-end-latest+then-job-latest+then-end-latest-2}
use Rattle.shop_states.proofs.siblings.latest_of.Goals.{else-job-latest-via-then-job-latest+else-end-latest-2}
use Rattle.shop_states.proofs.siblings.latest_of.Goals.{else-job-latest-via-else-job-latest}
use Rattle.shop_states.proofs.siblings.latest_of.Goals as goal

pub loop-index-preserved : goal.loop-index-preserved
loop-index-preserved g c =
    let so = c.loop-index.invariant in let here = c.loop-index-test.true
    in let end = c.end_of-end-in-loop-index.ensures.end
    in let ends = end_by (g.L.StateLanes.heads c.args.lanes.now) c.args.routes.now.times c.args.next.now
    in elim c.if-end-latest.branch [
      | then-end-latest w ↦ rw w.latest-is (ends_later {ends = ends} so here refl end w.if-end-latest.true)
      | else-end-latest+then-job-latest+then-end-latest-2 w ↦ rw w.latest-is (ends_second {ends = ends} so here refl end
          w.if-end-latest.false w.if-job-latest.true w.if-end-latest-2.true)
      | else-end-latest+else-job-latest w ↦ rw w.latest-is (ends_earlier {ends = ends} so here refl end
          w.if-end-latest.false (elim w.else-job-latest.branch [
            | else-job-latest-via-then-job-latest+else-end-latest-2 v ↦ inr v.if-end-latest-2.false
            | else-job-latest-via-else-job-latest v ↦ inl v.if-job-latest.false
          ]))
    ]

pub returns : goal.returns
returns g c = grind arith

pub loop-index-init : goal.loop-index-init
loop-index-init g c = grind arith
