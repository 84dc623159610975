use Rattle.std.proofs.{Common.codes, lemmas.Result.IfOk-weaker}
use Rattle.clap.specs.Words.{AddsArg, App, Rule, new_app, with_rule}
use Rattle.clap.specs.declared.builder.value_parser.ValueParser.TheVariants.{Names}
use Rattle.shop_runs.specs.declared.plans.TheConstants.{MAX_ROUNDS, MAX_BUDGET, MAX_PIECE, MAX_WORKERS}
use Rattle.shop_program.specs.CommandLine.{choice_rule, flag_rule, format_rule, number_rule, option_rule, path_rule}
use Rattle.shop_program.{specs.CommandLine.{IsCommandOf, solve_command, with_plan_rules}, proofs.Commands.has_argument}
use Rattle.shop_program.proofs.command_line.solve.Goals as goal

pub returns : goal.returns
returns c =
    let start : App = new_app (codes "solve") in
    let format : Rule = format_rule (Names c.args.formats) in
    let name : Rule = option_rule (codes "name") in
    let rounds : Rule = number_rule (codes "rounds") 0 MAX_ROUNDS (codes "1000") in
    let budget : Rule = number_rule (codes "budget") 1 MAX_BUDGET (codes "100000") in
    let piece : Rule = number_rule (codes "piece") 1 MAX_PIECE (codes "1") in
    let order : Rule = choice_rule (codes "order") (Names c.args.orders) (codes "kept") in
    let workers : Rule = number_rule (codes "workers") 1 MAX_WORKERS (codes "1") in
    let gantt : Rule = flag_rule (codes "gantt") in
    let named : App = with_rule (with_rule start format) name in
    let sized : App = with_rule (with_rule (with_rule named rounds) budget) piece in
    let planned : App = with_plan_rules (Names c.args.orders) named in
    let drawn : App = with_rule (with_rule planned workers) gantt in
    let one = has_argument start format c.described.ensures c.format.ensures c.in_ok-arg.ensures in
    let two = has_argument (with_rule start format) name one c.option.ensures c.in_ok-arg-2.ensures in
    let three = has_argument named rounds two c.number.ensures c.in_ok-arg-3.ensures in
    let four = has_argument (with_rule named rounds) budget three c.number-2.ensures c.in_ok-arg-4.ensures in
    let five = has_argument (with_rule (with_rule named rounds) budget) piece four c.number-3.ensures
    c.in_ok-arg-5.ensures in
    let six = has_argument sized order five c.choice.ensures c.in_ok-arg-6.ensures in
    let seven = has_argument planned workers six c.number-4.ensures c.in_ok-arg-7.ensures in
    let eight = has_argument (with_rule planned workers) gantt seven c.flag.ensures c.in_ok-arg-8.ensures in
    IfOk-weaker c.arg-9.result (AddsArg c.in_ok-arg-8.field-0 c.path.result)
    (IsCommandOf (solve_command (Names c.args.formats) (Names c.args.orders)))
    (λ new adds. has_argument drawn (path_rule (codes "FILE")) eight c.path.ensures adds) c.arg-9.ensures
