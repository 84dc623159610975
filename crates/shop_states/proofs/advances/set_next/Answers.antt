use Rattle.std.proofs.Common.{◌≡◌, ◌∙◌, ◌+◌, ℕ, ap, arith, set}
use Rattle.shop_lanes.specs.Rows.{with_end}
use Rattle.shop_states.proofs.NextLegs.{next_end, next_leg_known, next_position}
use Rattle.shop_states.specs.inner.{LaidLanes.rows_in, LaneEnds.end_at}
use Rattle.shop_states.proofs.advances.set_next.Goals as goal

pub leg-leg-requires : goal.leg-leg-requires
leg-leg-requires g c = next_leg_known c.routes-routes.ensures c.requires.stands c.behind.ensures.index

pub head_or_greatest-head-requires : goal.head_or_greatest-head-requires
head_or_greatest-head-requires g c = (next_end c.routes-routes.ensures c.requires.stands c.behind.ensures.index
    c.leg-leg.ensures c.args.next.now c.requires.job c.requires.keep).within

pub overflow_add-head : goal.overflow_add-head
overflow_add-head g c =
    let next = next_end c.routes-routes.ensures c.requires.stands c.behind.ensures.index c.leg-leg.ensures
    c.args.next.now c.requires.job c.requires.keep
    in let sum = next.sum in let fits = next.fits
    in let head = c.head_or_greatest-head.ensures in let small = c.requires.keep.computable in omega arith

pub set_end-requires-clause-fits : goal.set_end-requires-clause-fits
set_end-requires-clause-fits g c =
    let next = next_end c.routes-routes.ensures c.requires.stands c.behind.ensures.index c.leg-leg.ensures
    c.args.next.now c.requires.job c.requires.keep
    in let sum = next.sum in let fits = next.fits in let head = c.head_or_greatest-head.ensures in omega arith

pub returns : goal.returns
returns g c =
    let next = next_end c.routes-routes.ensures c.requires.stands c.behind.ensures.index c.leg-leg.ensures
    c.args.next.now c.requires.job c.requires.keep
    in let end : c.head_or_greatest-head.result + c.leg-leg.result.time ≡ end_at g.L.StateLanes.GREATEST
    (set c.args.next.now c.args.job c.leg-leg.result.position)
    (rows_in g.L.StateLanes c.args.grid.now c.args.lanes.now) c.args.job =
    ap (λ (h : ℕ). h + c.leg-leg.result.time) c.head_or_greatest-head.ensures ∙ next.sum
    in record {
      are_next = ap (set c.args.next.now c.args.job)
          (next_position c.routes-routes.ensures c.requires.stands c.behind.ensures.index c.leg-leg.ensures);
      ends = rw (c.set_end.ensures.heads, c.set_end.ensures.ends) (ap (with_end
          (rows_in g.L.StateLanes c.args.grid.now c.args.lanes.now) c.args.job) end);
    }
