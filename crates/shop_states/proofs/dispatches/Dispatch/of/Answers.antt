use Rattle.std.proofs.Common.{rules, ℕ, List, ◌∙◌, ap, arith, get_or, length}
use Rattle.shop_lanes.proofs.Unmarking.{positions_among-set}
use Rattle.shop_layout.specs.Positions.{LayoutState}
use Rattle.shop_states.proofs.Trials.{its_blocks, its_end, its_job, its_position}
use Rattle.shop_states.proofs.dispatches.Dispatch.of.Goals as goal

pub offset_bounds-next-job : goal.offset_bounds-next-job
offset_bounds-next-job g c =
    let a = its_job c.requires.kept c.args.job c.requires.fits
    in let long = ap (λ (ns : List ℕ). length ns) c.as_slice-next.ensures.value in omega arith

pub bounds-next-job : goal.bounds-next-job
bounds-next-job g c =
    let a = its_job c.requires.kept c.args.job c.requires.fits
    in let long = ap (λ (ns : List ℕ). length ns) c.as_slice-next.ensures.value in omega arith

pub machine-machine-requires : goal.machine-machine-requires
machine-machine-requires g c =
    let here = its_position c.requires.kept c.args.job c.requires.fits
    (ap (λ (ns : List ℕ). get_or ns c.args.job 0) c.as_slice-next.ensures.value)
    in let long = ap (λ (l : LayoutState). length l.machines) c.routes-routes.ensures
    in let known = c.requires.kept.kept.laid.machines_at.positions in let heads = c.requires.kept.kept.heads.positions
    in omega arith

pub head-requires : goal.head-requires
head-requires g c = its_position c.requires.kept c.args.job c.requires.fits
    (ap (λ (ns : List ℕ). get_or ns c.args.job 0) c.as_slice-next.ensures.value)

pub time-requires : goal.time-requires
time-requires g c =
    let here = its_position c.requires.kept c.args.job c.requires.fits
    (ap (λ (ns : List ℕ). get_or ns c.args.job 0) c.as_slice-next.ensures.value)
    in let long = ap (λ (l : LayoutState). length l.times) c.routes-routes.ensures
    in let known = c.requires.kept.kept.laid.positions.times in let heads = c.requires.kept.kept.heads.positions
    in omega arith

pub mark_below-delayed-requires-clause-machine : goal.mark_below-delayed-requires-clause-machine
mark_below-delayed-requires-clause-machine g c =
    let x = get_or c.as_slice-next.result.now c.args.job 0
    in its_blocks c.requires.kept c.args.job c.requires.fits
    (ap (λ (ns : List ℕ). get_or ns c.args.job 0) c.as_slice-next.ensures.value)
    (c.machine-machine.ensures ∙ ap (λ (l : LayoutState). get_or l.machines x 0) c.routes-routes.ensures)

pub mark_below-delayed-requires-clause-fits : goal.mark_below-delayed-requires-clause-fits
mark_below-delayed-requires-clause-fits g c =
    let x = get_or c.as_slice-next.result.now c.args.job 0
    in let time = ap (λ (l : LayoutState). get_or l.times x 0) c.routes-routes.ensures
    in let head = c.head.ensures in let its = c.time.ensures
    in its_end c.requires.kept c.args.job c.requires.fits (ap (λ (ns : List ℕ). get_or ns c.args.job 0)
    c.as_slice-next.ensures.value) (c.machine-machine.ensures ∙ ap (λ (l : LayoutState). get_or l.machines x 0)
    c.routes-routes.ensures) (omega arith)

pub overflow_add-end : goal.overflow_add-end
overflow_add-end g c = search (rules, mark_below-delayed-requires-clause-fits)

pub returns-clause-is : goal.returns-clause-is
returns-clause-is g c = grind (arith, positions_among-set)
