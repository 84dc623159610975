-- A line is what its subcommand's matches say.
use Rattle.std.proofs.Common.{arith, ◌≡◌, ◌∙◌, sym, ap, subst, refl, Option, Some, None, List, Bool, true, false, inl}
use Rattle.std.proofs.{Common.inr, lemmas.Grind.common_steps}
use Rattle.std.specs.Prelude.{option_map, Result, Ok, Err, IfOk, IfErr}
use Rattle.clap.specs.Words.{HasMatchesOf, Row, Text, app_of, is_simple, subcommand_name_of, subcommand_of}
use Rattle.clap.specs.{Words.{subcommand_rows_of, takes}, Values.kind_of, declared.error.Error.Error}
use Rattle.clap.specs.declared.error.kind.ErrorKind.{ErrorKind, TheVariants.OutOfMemory}
use Rattle.clap.specs.declared.builder.{command.Command.Command, value_parser.ValueParser.ValueParser}
use Rattle.clap.{specs.declared.parser.matches.ArgMatches.ArgMatches, proofs.OnLiterals.clap_on_literals}
use Rattle.shop_program.specs.CommandLine.{IsArgs, IsCommandLine, IsLineOf, IsUnread, UnlessNoMemory, command_line}
use Rattle.shop_program.specs.{inner.Arguments.Reads, declared.line_faults.LineFault.LineFault}
use Rattle.shop_program.specs.{LineFaults.{line_fault_by, line_fault_of}, declared.arguments.Args.Args}
use Rattle.shop_program.proofs.{Getters.{unless, weaker}, Refusals.NoArgs}

line_simple : (formats orders : ValueParser) → is_simple (command_line formats orders) ≡ true
unfolding clap_on_literals
line_simple formats orders = refl

pair : (n m : Text) (r t : List Row) → n ≡ m → r ≡ t → let p : Text × List Row = (n, r) in let q : Text × List
    Row = (m, t) in p ≡ q
pair n m r t e f = λ i. (e i, f i)

-- a name beside rows
abbrev beside : {B : Type 0} → (B → Text) → (B → List Row) → B → Text × List Row
beside name_in rows_in b = (name_in b, rows_in b)

-- a name and rows that are told apart are told together
together : {B : Type 0} (name_in : B → Text) (rows_in : B → List Row) (sub : Option B) (name : Text) (rows : List Row)
    → Some name ≡ option_map name_in sub → Some rows ≡ option_map (λ (p : Text × List Row). p.1) (option_map
    (beside name_in rows_in) sub) → option_map (beside name_in rows_in) sub ≡ Some (name, rows)
together name_in rows_in None name rows is has = absurd (cc)
together name_in rows_in (Some b) name rows is has = grind (arith, common_steps, pair)

-- a parse reads what the matches have
read_of : (words : List Text) (matches : ArgMatches) (command : Command) (sub : Option (Text × List Row))
    (line : IsCommandLine command) → HasMatchesOf (app_of command) words matches → subcommand_rows_of matches ≡ sub
    → subcommand_of (command_line line.0 line.1) words ≡ sub
read_of words matches command sub line has entered =
    let simple : is_simple (app_of command) ≡ true = ap is_simple line.4.0 ∙ line_simple line.0 line.1 in
    ap (λ a. subcommand_of a words) (sym line.4.0) ∙ (sym (has simple).1 ∙ entered)

line_of : (words : List Text) (matches : ArgMatches) (command : Command) (args : Args) (name : Text) (rows
    : List Row) → IsCommandLine command → HasMatchesOf (app_of command) words matches
    → Some name ≡ subcommand_name_of matches → Some rows ≡ option_map (λ (p : Text × List Row). p.1)
    (subcommand_rows_of matches) → IsArgs name rows args → IsLineOf words args
line_of words matches command args name rows line has is of given =
    let entered : subcommand_rows_of matches ≡ Some (name, rows) = together _ _ _ name rows is of in
    let read : subcommand_of (command_line line.0 line.1) words ≡ Some (name, rows) =
    read_of words matches command (Some (name, rows)) line has entered in
    (line.0, line.1, line.2, line.3, ((name, rows), read, given))

-- ---- lines that are refused

unread_by : (words : List Text) (matches : ArgMatches) (command : Command) (sub : Option (Text × List Row))
    → IsCommandLine command → HasMatchesOf (app_of command) words matches → subcommand_rows_of matches ≡ sub
    → ((args : Args) (m : Text × List Row) → sub ≡ Some m → IsArgs m.0 m.1 args → ⊥) → IsUnread words
unread_by words matches command sub line has entered none = (
  line.0,
  line.1,
  line.2,
  line.3,
  inr (λ args by.
      none args by.0 (sym (read_of words matches command sub line has entered) ∙ by.1) by.2),
)

of_some : {A : Type 0} (x y : A) → Some x ≡ Some y → x ≡ y
of_some x y e = cc

-- the subcommand's matches are of no arguments
pub unread_of : (words : List Text) (matches : ArgMatches) (command : Command) (name : Text) (rows : List Row)
    → IsCommandLine command → HasMatchesOf (app_of command) words matches
    → Some name ≡ subcommand_name_of matches → Some rows ≡ option_map (λ (p : Text × List Row). p.1)
    (subcommand_rows_of matches) → NoArgs name rows → IsUnread words
unread_of words matches command name rows line has is of none =
    let entered : subcommand_rows_of matches ≡ Some (name, rows) = together _ _ _ name rows is of in
    unread_by words matches command (Some (name, rows)) line has entered
    (λ args m e given. none args (subst (λ (p : Text × List Row). IsArgs p.0 p.1 args) (sym (of_some _ m e)) given))

-- what a subcommand's arguments are read to
pub told : (words : List Text) (matches : ArgMatches) (command : Command) (name : Text) (rows : List Row)
    (r : Result Args LineFault) → IsCommandLine command → HasMatchesOf (app_of command) words matches
    → Some name ≡ subcommand_name_of matches → Some rows ≡ option_map (λ (p : Text × List Row). p.1)
    (subcommand_rows_of matches)
    → Reads (IsArgs name rows) r → IfOk r (IsLineOf words) × IfErr r (UnlessNoMemory (IsUnread words))
told words matches command name rows (Ok args) line has is of given =
    (line_of words matches command args name rows line has is of given, tt)
told words matches command name rows (Err fault) line has is of none = (
  tt,
  weaker (NoArgs name rows) (IsUnread words) (unread_of words matches command name rows line has is of) fault none,
)

none_of : (sub : Option (Text × List Row)) → None ≡ option_map (λ (p : Text × List Row). p.1) sub → sub ≡ None
none_of None e = refl
none_of (Some p) e = absurd cc

-- there is no subcommand
pub unread_without : (words : List Text) (matches : ArgMatches) (command : Command)
    → IsCommandLine command → HasMatchesOf (app_of command) words matches
    → None ≡ option_map (λ (p : Text × List Row). p.1) (subcommand_rows_of matches) → IsUnread words
unread_without words matches command line has none = grind (arith, common_steps, unread_by, none_of)

by_kind : (P : Type 0) (fault : Error) (kind : ErrorKind) (taken : Bool) → (taken ≡ false → P)
    → (taken ≡ true → kind ≡ OutOfMemory) → UnlessNoMemory P (line_fault_by kind fault)
by_kind P fault kind false p memory = grind (arith, common_steps, unless)
by_kind P fault kind true p memory = grind (arith, common_steps)

-- clap doesn't take the words
pub untaken : (words : List Text) (command : Command) (fault : Error) → IsCommandLine command
    → (takes (app_of command) words ≡ true → kind_of fault ≡ OutOfMemory)
    → UnlessNoMemory (IsUnread words) (line_fault_of fault)
untaken words command fault line passes =
    by_kind (IsUnread words) fault (kind_of fault) (takes (app_of command) words)
    (λ refused. (line.0, line.1, line.2, line.3, inl (ap (λ a. takes a words) (sym line.4.0) ∙ refused)))
    passes
