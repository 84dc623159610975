-- The command line, in clap's words of a simple command.
--     command_line formats orders  the command: what a parse reads of it
--     IsLineOf words args          the arguments are those that clap reads of the words by this command
--     IsUnread words               there are none
use Rattle.std.specs.Prelude.{◌≡◌, ◌≤◌, ◌⊎◌, ℕ, true, false, Bool, List, [], ◌∷◌, Option, Some, map, codes, option_map}
use Rattle.std.specs.{Prelude.string_bytes, Str.Parse.{IsNumeral, digits_value, without_leading_plus}}
use Rattle.clap.specs.Words.{App, Row, Rule, Text, app_of, first_of, one_of, new_app, new_rule, subcommand_of, takes}
use Rattle.clap.specs.{Words.{with_rule, with_subcommand}, declared.builder.action.ArgAction.TheVariants.SetTrue}
use Rattle.clap.specs.{declared.builder.command.Command.Command, declared.builder.command.Command.TheViews.out-Command}
use Rattle.clap.specs.declared.builder.value_parser.ValueParser.{ValueParser}
use Rattle.clap.specs.declared.builder.value_parser.ValueParser.TheVariants.{Unsigned, Names}
use Rattle.shop_runs.specs.Limits.{IsPlanWithin}
use Rattle.shop_runs.specs.declared.plans.TheConstants.{MAX_ROUNDS, MAX_BUDGET, MAX_PIECE, MAX_WORKERS}
use Rattle.shop_runs.specs.{Orders.order_word, declared.plans.Order.TheVariants.{Kept, Bound}, declared.plans.Plan.Plan}
use Rattle.shop_text.specs.{Formats.word_of, declared.formats.Format.TheVariants.{Orlib, Taillard, Routes}}
use Rattle.shop_program.specs.declared.arguments.Args.TheVariants.{List as ListNames, Check, Solve}
use Rattle.shop_program.specs.declared.line_faults.LineFault.TheVariants.{NoMemory, Usage}
use Rattle.shop_program.specs.{declared.line_faults.LineFault.LineFault, declared.arguments.Args.Args}

-- ---- the command

-- an option with a value, one of a choice of values, one with a number, a flag, and a path
abbrev pub option_rule : Text → Rule
option_rule id = record (new_rule id) { long = Some id; value_names = 1 }

abbrev pub choice_rule : Text → ValueParser → Text → Rule
choice_rule id choice default = record (option_rule id) {
  parser = Some choice;
  defaults = default ∷ [];
}

abbrev pub number_rule : Text → ℕ → ℕ → Text → Rule
number_rule id least most default = record (option_rule id) {
  parser = Some (Unsigned least most);
  defaults = default ∷ [];
}

abbrev pub flag_rule : Text → Rule
flag_rule id = record (new_rule id) { long = Some id; action = Some SetTrue }

abbrev pub path_rule : Text → Rule
path_rule id = record (new_rule id) { value_names = 1 }

abbrev pub with_rules : App → List Rule → App
with_rules app [] = app
with_rules app (rule ∷ rules) = with_rules (with_rule app rule) rules

abbrev pub format_rule : ValueParser → Rule
format_rule formats = choice_rule (codes "format") formats (codes "orlib")

-- a command that reads as this one, with no global argument
abbrev pub IsCommandOf : App → Command → Type 0
IsCommandOf app command = (app_of command ≡ app) × ((out-Command command).has_globals ≡ false)

abbrev pub list_command : ValueParser → App
list_command formats = with_rules (new_app (codes "list")) (format_rule formats ∷ path_rule (codes "FILE") ∷ [])

abbrev pub check_command : ValueParser → App
check_command formats =
    with_rules (new_app (codes "check"))
    (format_rule formats
    ∷ option_rule (codes "name")
    ∷ path_rule (codes "FILE")
    ∷ path_rule (codes "SCHEDULE")
    ∷ [])

-- rounds from 0, budgets and pieces from 1, each up to its limit, and an order
abbrev pub with_plan_rules : ValueParser → App → App
with_plan_rules orders app =
    with_rules app
    (number_rule (codes "rounds") 0 MAX_ROUNDS (codes "1000")
    ∷ number_rule (codes "budget") 1 MAX_BUDGET (codes "100000")
    ∷ number_rule (codes "piece") 1 MAX_PIECE (codes "1")
    ∷ choice_rule (codes "order") orders (codes "kept")
    ∷ [])

abbrev pub solve_command : ValueParser → ValueParser → App
solve_command formats orders =
    let named =
    with_rules (new_app (codes "solve")) (format_rule formats ∷ option_rule (codes "name") ∷ [])
    in with_rules (with_plan_rules orders named)
    (number_rule (codes "workers") 1 MAX_WORKERS (codes "1")
    ∷ flag_rule (codes "gantt")
    ∷ path_rule (codes "FILE")
    ∷ [])

abbrev pub needing_subcommand : App → App
needing_subcommand app = record app { top = record app.top { subcommand_required = true } }

abbrev pub command_line : ValueParser → ValueParser → App
command_line formats orders =
    let listing =
    with_subcommand (needing_subcommand (new_app (codes "jobshop"))) (list_command formats).top
    in with_subcommand (with_subcommand listing (check_command formats).top)
    (solve_command formats orders).top

-- the value is one of these words
abbrev pub IsChoice : List Text → ValueParser → Type 0
IsChoice words (Names names) = map (λ n. n.now) names.now ≡ words
IsChoice words parser = ⊥

abbrev pub format_words : List Text
format_words = map word_of (Orlib ∷ Taillard ∷ Routes ∷ [])

abbrev pub order_words : List Text
order_words = map order_word (Kept ∷ Bound ∷ [])

-- this holds of the command line, with the words of formats and orders
abbrev pub OfLine : (App → Type 0) → Type 0
OfLine Holds = (formats orders : ValueParser) × IsChoice format_words formats
    × IsChoice order_words orders × Holds (command_line formats orders)

abbrev pub IsCommandLine : Command → Type 0
IsCommandLine command = OfLine (λ app. IsCommandOf app command)

-- ---- its values

-- the first value of an argument is this text, or none; this number; this flag
abbrev pub MayHave : List Row → Text → Option Text → Type 0
MayHave rows id text = first_of id rows ≡ text

abbrev pub HasText : List Row → Text → Text → Type 0
HasText rows id text = MayHave rows id (Some text)

abbrev pub NumberIs : Text → ℕ → Type 0
NumberIs text n =
    IsNumeral 10 (without_leading_plus text) × (n ≡ digits_value 10 (without_leading_plus text))

abbrev pub HasNumber : List Row → Text → ℕ → Type 0
HasNumber rows id n = (text : Text) × (one_of id rows ≡ Some text) × NumberIs text n

pub record HasFlag (rows : List Row) (id : Text) (flag : Bool) : Type 0 where
  pub given : one_of id rows ≡ Some (codes "true") → flag ≡ true
  pub absent : one_of id rows ≡ Some (codes "false") → flag ≡ false

-- the plan has these values, and is within the limits
pub record HasPlan (rows : List Row) (plan : Plan) : Type 0 where
  pub rounds : HasNumber rows (codes "rounds") plan.rounds
  pub budget : HasNumber rows (codes "budget") plan.budget
  pub piece : HasNumber rows (codes "piece") plan.piece
  pub order : HasText rows (codes "order") (order_word plan.order)
  pub within : IsPlanWithin plan.rounds plan.budget plan.piece

-- the arguments are those of a command of this name with these matches
abbrev pub IsArgs : Text → List Row → Args → Type 0
IsArgs name rows (ListNames args file) =
    (name ≡ codes "list") × HasText rows (codes "format") (word_of args.format)
    × MayHave rows (codes "FILE") (option_map string_bytes file)
IsArgs name rows (Check args file schedule) =
    (name ≡ codes "check") × HasText rows (codes "format") (word_of args.format)
    × MayHave rows (codes "name") (option_map string_bytes args.name)
    × MayHave rows (codes "FILE") (option_map string_bytes file)
    × MayHave rows (codes "SCHEDULE") (option_map string_bytes schedule)
IsArgs name rows (Solve args workers file) =
    (name ≡ codes "solve") × HasText rows (codes "format") (word_of args.format)
    × MayHave rows (codes "name") (option_map string_bytes args.name)
    × HasPlan rows args.plan
    × HasNumber rows (codes "workers") workers.count
    × (1 ≤ workers.count) × (workers.count ≤ MAX_WORKERS)
    × HasFlag rows (codes "gantt") args.gantt
    × MayHave rows (codes "FILE") (option_map string_bytes file)

-- the arguments are those that clap reads of the words by this command
abbrev pub IsReadBy : App → List Text → Args → Type 0
IsReadBy app words args = (matches : Text × List Row) × (subcommand_of app words ≡ Some matches)
    × IsArgs matches.0 matches.1 args

abbrev pub IsLineOf : List Text → Args → Type 0
IsLineOf words args = OfLine (λ app. IsReadBy app words args)

-- clap doesn't take the words, or what it reads of them is of no arguments
abbrev pub IsUnread : List Text → Type 0
IsUnread words = OfLine (λ app. (takes app words ≡ false) ⊎ ((args : Args) → IsReadBy app words args → ⊥))

-- why a command line is refused: this, or memory ran out
abbrev pub UnlessNoMemory : Type 0 → LineFault → Type 0
UnlessNoMemory Refused NoMemory = Unit {0}
UnlessNoMemory Refused (Usage error) = Refused
