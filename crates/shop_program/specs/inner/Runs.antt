-- A command and the text that it is run on, apart.
use Rattle.std.specs.Prelude.{ℕ, Result}
use Rattle.shop_engine.specs.{declared.faults.Fault.Fault, Devices.Device}
use Rattle.shop_program.specs.declared.arguments.Args.{Args}
use Rattle.shop_program.specs.declared.arguments.Args.TheVariants.{List as ListNames, Check, Solve}
use Rattle.shop_program.specs.{Commands.{Opens, Path, ListsFrom, ChecksFrom}, Running.SolvesFrom}

-- the path of the text that a command is run on
abbrev pub file_in : Args → Path
file_in (ListNames args file) = file
file_in (Check args file schedule) = file
file_in (Solve args workers file) = file

-- what a command does to a source and the sink, and its status
abbrev pub RunsFrom : Opens → Args → Device → Device → Result ℕ Fault → Device → Device → Type 0
RunsFrom opens (ListNames args file) = ListsFrom args
RunsFrom opens (Check args file schedule) = ChecksFrom opens args schedule
RunsFrom opens (Solve args workers file) = SolvesFrom args
