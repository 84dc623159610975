use Rattle.shop_text.specs.Names.{shop_of_named}
use Rattle.shop_engine.{specs.Asking.name_in, proofs.{Picks.{is_asked, solution}, SolvedSchedules.passes_check}}
use Rattle.shop_engine.proofs.solving.solve_bytes.Goals as goal

pub returns-clause-right : goal.returns-clause-right
returns-clause-right g c =
    let args = c.args.args.now
    in let picked = is_asked args.format (name_in args.name) c.in_ok-named.ensures.0 c.as_slice.ensures.value
    c.in_ok-asked.ensures
    in (solution args picked c.in_ok-report.ensures.right c.in_ok-report.ensures.determined).right

pub returns-clause-determined : goal.returns-clause-determined
returns-clause-determined g c =
    let args = c.args.args.now
    in let picked = is_asked args.format (name_in args.name) c.in_ok-named.ensures.0 c.as_slice.ensures.value
    c.in_ok-asked.ensures
    in (solution args picked c.in_ok-report.ensures.right c.in_ok-report.ensures.determined).determined

pub returns-clause-schedule : goal.returns-clause-schedule
returns-clause-schedule g c =
    let args = c.args.args.now
    in let picked = is_asked args.format (name_in args.name) c.in_ok-named.ensures.0 c.as_slice.ensures.value
    c.in_ok-asked.ensures
    in passes_check args.format (name_in args.name) c.args.text.now _ (shop_of_named c.in_ok-asked.asked.now) picked
    c.in_ok-report.ensures.schedule
