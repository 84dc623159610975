use Rattle.std.proofs.Common.{◌+◌, ◌∙◌, arith, refl}
use Rattle.shop_layout.specs.Lanes.{rows_of}
use Rattle.shop_states.proofs.FillTurns.{filling_begins, filling_on, job_filled, leg_few, leg_fits, leg_machine_within}
use Rattle.shop_states.proofs.{FillTurns.leg_there, RaiseSteps.put_is}
use Rattle.shop_states.proofs.fills.fill_route.Goals as goal

pub loop-routes-init : goal.loop-routes-init
loop-routes-init g c = record { filling = λ j job s at. filling_begins c.requires.fill job at; ends = refl }

pub leg-leg-requires : goal.leg-leg-requires
leg-leg-requires g c = leg_there c.requires.fill c.requires.of.known (c.loop-routes.invariant.filling
    c.requires.of.job c.requires.of.known c.requires.of.some.placement c.requires.of.some.at)
    (c.routes-routes.ensures ∙ c.grid-grid.ensures.grid)

pub returns-then-position-end-clause-heads : goal.returns-then-position-end-clause-heads
returns-then-position-end-clause-heads g c = λ j job s at. job_filled c.requires.fill job
    (c.loop-routes.invariant.filling j job s at) (c.routes-routes.ensures ∙ c.grid-grid.ensures.grid) c.leg-leg.ensures
    (rw c.grid-grid.ensures.grid at c.positions-end.ensures) c.if-position-end.true

pub bounds-free-leg : goal.bounds-free-leg
bounds-free-leg g c = leg_machine_within c.requires.fill c.requires.of.known
    (c.loop-routes.invariant.filling c.requires.of.job c.requires.of.known c.requires.of.some.placement
    c.requires.of.some.at) (c.routes-routes.ensures ∙ c.grid-grid.ensures.grid) c.leg-leg.ensures (rw
    c.grid-grid.ensures.grid at c.positions-end.ensures) c.if-position-end.false c.requires.of.some.at

pub lane_number-requires : goal.lane_number-requires
lane_number-requires g c =
    let fits = (leg_fits c.requires.fill c.requires.of.known (c.loop-routes.invariant.filling
    c.requires.of.job c.requires.of.known c.requires.of.some.placement c.requires.of.some.at) (c.routes-routes.ensures ∙
    c.grid-grid.ensures.grid) c.leg-leg.ensures (rw c.grid-grid.ensures.grid at c.positions-end.ensures)
    c.if-position-end.false c.requires.of.some.at c.max-head.ensures).0
    in let computable = c.requires.fill.computable in omega arith

pub set_head-requires-clause-in_range : goal.set_head-requires-clause-in_range
set_head-requires-clause-in_range g c = grind arith

pub set_head-requires-clause-fits : goal.set_head-requires-clause-fits
set_head-requires-clause-fits g c = rw c.lane_number.ensures ((leg_fits c.requires.fill c.requires.of.known
    (c.loop-routes.invariant.filling c.requires.of.job c.requires.of.known c.requires.of.some.placement
    c.requires.of.some.at) (c.routes-routes.ensures ∙ c.grid-grid.ensures.grid) c.leg-leg.ensures
    (rw c.grid-grid.ensures.grid at c.positions-end.ensures) c.if-position-end.false c.requires.of.some.at
    c.max-head.ensures).0)

pub overflow_add-begin : goal.overflow_add-begin
overflow_add-begin g c =
    let fits = (leg_fits c.requires.fill c.requires.of.known (c.loop-routes.invariant.filling
    c.requires.of.job c.requires.of.known c.requires.of.some.placement c.requires.of.some.at) (c.routes-routes.ensures ∙
    c.grid-grid.ensures.grid) c.leg-leg.ensures (rw c.grid-grid.ensures.grid at c.positions-end.ensures)
    c.if-position-end.false c.requires.of.some.at c.max-head.ensures).1
    in let computable = c.requires.fill.computable in omega arith

pub overflow_add-at : goal.overflow_add-at
overflow_add-at g c =
    let few = leg_few c.requires.fill c.requires.of.known (c.loop-routes.invariant.filling
    c.requires.of.job c.requires.of.known c.requires.of.some.placement c.requires.of.some.at)
    (c.routes-routes.ensures ∙ c.grid-grid.ensures.grid) in omega arith

pub loop-routes-smaller : goal.loop-routes-smaller
loop-routes-smaller g c =
    let there = leg_there c.requires.fill c.requires.of.known (c.loop-routes.invariant.filling
    c.requires.of.job c.requires.of.known c.requires.of.some.placement c.requires.of.some.at)
    {read = c.args.laid_out.now.layout} refl in omega arith

pub loop-routes-preserved : goal.loop-routes-preserved
loop-routes-preserved g c = record {
  filling = λ j job s at. filling_on c.requires.fill job (c.loop-routes.invariant.filling j job s at)
      (c.routes-routes.ensures ∙ c.grid-grid.ensures.grid) c.leg-leg.ensures
      (rw c.grid-grid.ensures.grid at c.positions-end.ensures)
      c.if-position-end.false at c.max-head.ensures (rows_of c.args.laid_out.now.layout
      (g.L.StateLanes.heads c.set_head.new.self) (g.L.StateLanes.ends c.set_head.new.self))
      (put_is c.args.laid_out.now.layout (g.L.StateLanes.heads c.loop-routes.lanes) c.leg-leg.result.position
      (c.max-head.result + 1) (rw c.lane_number.ensures at c.set_head.ensures.heads) c.set_head.ensures.ends);
  ends = c.set_head.ensures.ends ∙ c.loop-routes.invariant.ends;
}
