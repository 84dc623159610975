use Rattle.std.proofs.Common.{◌∙◌, arith}
use Rattle.shop_states.proofs.FillTurns.{filling_begins, job_filled, leg_fits, leg_machine_within, leg_there}
use Rattle.shop_states.proofs.FilledJobs.{end_set, none_left}
use Rattle.shop_states.proofs.fills.fill_job.Goals as goal

pub leg-leg-requires : goal.leg-leg-requires
leg-leg-requires g c = leg_there c.requires.fill c.requires.job (filling_begins c.requires.fill c.requires.job
    c.requires.of.at) (c.routes.ensures ∙ c.grid-grid.ensures.grid)

pub returns-then-leg-positions-clause-heads : goal.returns-then-leg-positions-clause-heads
returns-then-leg-positions-clause-heads g c = λ s at. job_filled c.requires.fill c.requires.job
    (filling_begins c.requires.fill c.requires.job at) (c.routes.ensures ∙ c.grid-grid.ensures.grid) c.leg-leg.ensures
    (rw c.grid-grid.ensures.grid at c.positions.ensures) c.if-leg-positions.true

pub returns-then-leg-positions-clause-next : goal.returns-then-leg-positions-clause-next
returns-then-leg-positions-clause-next g c = λ s at p placed. none_left c.requires.fill c.requires.job at
    (c.routes.ensures ∙ c.grid-grid.ensures.grid) c.leg-leg.ensures (rw c.grid-grid.ensures.grid at c.positions.ensures)
    p placed c.if-leg-positions.true

pub bounds-free-leg : goal.bounds-free-leg
bounds-free-leg g c = leg_machine_within c.requires.fill c.requires.job (filling_begins c.requires.fill c.requires.job
    c.requires.of.at) (c.routes.ensures ∙ c.grid-grid.ensures.grid) c.leg-leg.ensures (rw c.grid-grid.ensures.grid at
    c.positions.ensures) c.if-leg-positions.false c.requires.of.at

pub overflow_add-head : goal.overflow_add-head
overflow_add-head g c =
    let fits = (leg_fits c.requires.fill c.requires.job (filling_begins c.requires.fill c.requires.job c.requires.of.at)
    (c.routes.ensures ∙ c.grid-grid.ensures.grid) c.leg-leg.ensures (rw c.grid-grid.ensures.grid at c.positions.ensures)
    c.if-leg-positions.false c.requires.of.at c.max-head.ensures).1
    in let computable = c.requires.fill.computable in omega arith

pub lane_number-requires : goal.lane_number-requires
lane_number-requires g c =
    let fits = (leg_fits c.requires.fill c.requires.job (filling_begins c.requires.fill c.requires.job c.requires.of.at)
    (c.routes.ensures ∙ c.grid-grid.ensures.grid) c.leg-leg.ensures (rw c.grid-grid.ensures.grid at c.positions.ensures)
    c.if-leg-positions.false c.requires.of.at c.max-head.ensures).1
    in let computable = c.requires.fill.computable in omega arith

pub set_end-requires-clause-fits : goal.set_end-requires-clause-fits
set_end-requires-clause-fits g c =
    let fits = (leg_fits c.requires.fill c.requires.job (filling_begins c.requires.fill c.requires.job c.requires.of.at)
    (c.routes.ensures ∙ c.grid-grid.ensures.grid) c.leg-leg.ensures (rw c.grid-grid.ensures.grid at c.positions.ensures)
    c.if-leg-positions.false c.requires.of.at c.max-head.ensures).1
    in let is = c.lane_number.ensures in omega arith

pub returns-clause-next : goal.returns-clause-next
returns-clause-next g c = λ s at p placed. end_set c.requires.fill c.requires.job at
    (c.routes.ensures ∙ c.grid-grid.ensures.grid) c.leg-leg.ensures (rw c.grid-grid.ensures.grid at c.positions.ensures)
    p placed c.if-leg-positions.false c.max-head.ensures
    (rw c.lane_number.ensures at (c.fill_route.ensures.ends ∙ c.set_end.ensures.ends))
    (let many = c.requires.ends in let known = c.requires.job in omega arith)

pub fill_route-requires-clause-fill : goal.fill_route-requires-clause-fill
fill_route-requires-clause-fill g c = grind arith

pub returns-clause-heads : goal.returns-clause-heads
returns-clause-heads g c = grind arith
