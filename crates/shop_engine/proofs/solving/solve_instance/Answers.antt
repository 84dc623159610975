use Rattle.std.proofs.Common.{arith}
use Rattle.shop_text.specs.Names.{shop_of_named}
use Rattle.shop_engine.proofs.{Reported.{right}, SolvedSchedules.gives_schedule}
use Rattle.shop_engine.proofs.solving.solve_instance.Goals as goal

pub returns-clause-right : goal.returns-clause-right
returns-clause-right g c = grind (arith, right)

pub returns-clause-schedule : goal.returns-clause-schedule
returns-clause-schedule g c =
    let told = c.in_ok-text
    in gives_schedule (shop_of_named c.args.asked.now) c.in_ok-answer.answer c.args.with_gantt told.text.items
    c.in_ok-answer.ensures.trust c.keeps_limits.ensures told.ensures.written
