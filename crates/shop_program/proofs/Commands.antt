-- Commands that are set to need a subcommand, or have one argument or one subcommand more, read as simple commands do.
use Rattle.std.proofs.{Common.{arith, ◌≡◌, true}, lemmas.Grind.common_steps}
use Rattle.clap.specs.Words.{AddsArg, AddsSubcommand, App, Rule, with_rule, with_subcommand}
use Rattle.clap.specs.declared.builder.{arg.Arg.Arg, command.Command.{Command, TheViews.out-Command}}
use Rattle.shop_program.specs.{CommandLine.{IsCommandOf, needing_subcommand}, inner.Arguments.IsArgOf}

pub needs_subcommand : (app : App) (old new : Command)
    → IsCommandOf app old → out-Command new ≡ record (out-Command old) { subcommand_required = true } →
    IsCommandOf (needing_subcommand app) new
needs_subcommand app old new is same = grind (arith, common_steps, is.0, is.1)

pub has_argument : (app : App) (rule : Rule) {old new : Command} {arg : Arg} → IsCommandOf app old → IsArgOf rule arg
    → AddsArg old arg new → IsCommandOf (with_rule app rule) new
has_argument app rule is of adds = grind (arith, common_steps, is.0, is.1, of.0, of.1, adds.shape, adds.globals)

pub has_subcommand : (app sub : App) {old other new : Command} → IsCommandOf app old → IsCommandOf sub other
    → AddsSubcommand old other new → IsCommandOf (with_subcommand app sub.top) new
has_subcommand app sub is of adds = grind (arith, common_steps, is.0, is.1, of.0, of.1, adds.shape, adds.globals)
