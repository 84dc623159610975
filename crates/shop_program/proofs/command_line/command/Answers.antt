use Rattle.std.proofs.{Common.{codes, arith}, lemmas.Result.IfOk-weaker}
use Rattle.clap.specs.Words.{AddsSubcommand, App, new_app, with_subcommand}
use Rattle.clap.specs.declared.builder.value_parser.ValueParser.{ValueParser, TheVariants.Names}
use Rattle.shop_program.specs.CommandLine.{IsCommandLine, check_command, list_command, needing_subcommand}
use Rattle.shop_program.specs.CommandLine.{IsChoice, format_words, order_words, solve_command}
use Rattle.shop_program.proofs.Commands.{needs_subcommand, has_subcommand}
use Rattle.shop_program.proofs.command_line.command.Goals as goal

pub returns : goal.returns
returns c =
    let formats : ValueParser = Names c.as_slice-formats.result in
    let orders : ValueParser = Names c.as_slice.result in
    let of_formats : IsChoice format_words formats = grind arith in
    let of_orders : IsChoice order_words orders = grind arith in
    let start : App = needing_subcommand (new_app (codes "jobshop")) in
    let listing : App = with_subcommand start (list_command formats).top in
    let checking : App = with_subcommand listing (check_command formats).top in
    let first = has_subcommand start (list_command formats)
    (needs_subcommand _ _ _ c.described.ensures c.subcommand_required.ensures) c.in_ok-list.ensures
    c.in_ok-subcommand.ensures in
    let second = has_subcommand listing (check_command formats) first c.in_ok-check.ensures
    c.in_ok-subcommand-2.ensures in
    IfOk-weaker c.subcommand-3.result (AddsSubcommand c.in_ok-subcommand-2.field-0 c.in_ok-solve.field-0) IsCommandLine
    (λ command adds. (
      formats,
      orders,
      of_formats,
      of_orders,
      has_subcommand checking (solve_command formats orders) second c.in_ok-solve.ensures adds,
    )) c.subcommand-3.ensures
