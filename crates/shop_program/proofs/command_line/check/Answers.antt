use Rattle.std.proofs.{Common.codes, lemmas.Result.IfOk-weaker}
use Rattle.clap.specs.Words.{AddsArg, App, Rule, new_app, with_rule}
use Rattle.clap.specs.declared.builder.value_parser.ValueParser.TheVariants.{Names}
use Rattle.shop_program.specs.CommandLine.{IsCommandOf, check_command, format_rule, option_rule, path_rule}
use Rattle.shop_program.proofs.Commands.{has_argument}
use Rattle.shop_program.proofs.command_line.check.Goals as goal

pub returns : goal.returns
returns c =
    let start : App = new_app (codes "check") in let format : Rule = format_rule (Names c.args.formats) in
    let name : Rule = option_rule (codes "name") in let file : Rule = path_rule (codes "FILE") in
    let named : App = with_rule (with_rule start format) name in
    let one = has_argument start format c.described.ensures c.format.ensures c.in_ok-arg.ensures in
    let two = has_argument (with_rule start format) name one c.option.ensures c.in_ok-arg-2.ensures in
    let three = has_argument named file two c.path.ensures c.in_ok-arg-3.ensures in
    IfOk-weaker c.arg-4.result (AddsArg c.in_ok-arg-3.field-0 c.path-2.result)
    (IsCommandOf (check_command (Names c.args.formats)))
    (λ new adds. has_argument (with_rule named file) (path_rule (codes "SCHEDULE")) three c.path-2.ensures adds)
    c.arg-4.ensures
