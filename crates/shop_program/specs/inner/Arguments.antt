-- Arguments of a command, in clap's words, and what is read of them.
use Rattle.std.specs.Prelude.{◌≡◌, false, Result, Ok, Err}
use Rattle.clap.specs.{Words.{Rule, rule_of}, declared.builder.arg.Arg.Arg}
use Rattle.shop_program.specs.{CommandLine.UnlessNoMemory, declared.line_faults.LineFault.LineFault}

-- an argument of this rule, which isn't global
abbrev pub IsArgOf : Rule → Arg → Type 0
IsArgOf rule arg = (rule_of arg ≡ rule) × (arg.global ≡ false)

-- what was read is of this kind; or memory ran out, or there is nothing of this kind
abbrev pub Reads : {A : Type 0} → (A → Type 0) → Result A LineFault → Type 0
Reads Is (Ok value) = Is value
Reads {A = A} Is (Err fault) = UnlessNoMemory ((value : A) → Is value → ⊥) fault
