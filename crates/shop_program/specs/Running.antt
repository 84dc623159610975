-- What a run of the program does to standard input and output, and how it ends. OPENS says what
-- opening a path may give.
use Rattle.std.specs.Prelude.{◌≡◌, ℕ, ◌⊎◌, List, Result, Ok, Err}
use Rattle.clap.specs.Words.{Text}
use Rattle.shop_engine.specs.{declared.args.SolveArgs.SolveArgs, declared.faults.Fault.Fault, Devices.Device}
use Rattle.shop_engine.specs.{Asking.name_in, Headline.{IsRightOf, IsDeterminedOf, WhereKnown}, Solving.IsSolving}
use Rattle.shop_program.specs.{CommandLine.{IsLineOf, IsUnread}, declared.arguments.Args.Args}
use Rattle.shop_program.specs.declared.arguments.Args.TheVariants.{List as ListNames, Check, Solve}
use Rattle.shop_program.specs.{Statuses.status_of, Commands.{Streams, Opens, IsRunOn, ListsFrom, ChecksFrom}}

-- what `solve` did to a source and a sink
pub record HasSolved (args : SolveArgs) (sink sink' : Device) (result : Result (Unit {0}) Fault)
    (source source' : Device) : Type 0 where
  pub right : WhereKnown (IsRightOf args.format (name_in args.name) args.gantt)
      source sink sink' result
  pub determined : WhereKnown (IsDeterminedOf args) source sink sink' result
  pub solving : IsSolving args source source' sink sink' result

-- 0 for a report, whatever its status
abbrev pub SolvesFrom : SolveArgs → Device → Device → Result ℕ Fault → Device → Device → Type 0
SolvesFrom args sink sink' (Ok status) source source' = (status ≡ 0) × HasSolved args sink sink' (Ok tt) source source'
SolvesFrom args sink sink' (Err fault) source source' =
    HasSolved args sink sink' (Err fault) source source'

-- ---- the program

-- what the command line asks for was done, or ended by a fault
abbrev pub IsCommandRun : Opens → Args → Streams → Streams → Result ℕ Fault → Type 0
IsCommandRun opens (ListNames args file) old new result =
    IsRunOn opens file old new result (ListsFrom args old.sink new.sink result)
IsCommandRun opens (Check args file schedule) old new result =
    IsRunOn opens file old new result (ChecksFrom opens args schedule old.sink new.sink result)
IsCommandRun opens (Solve args workers file) old new result =
    IsRunOn opens file old new result (SolvesFrom args old.sink new.sink result)

-- the status of a run
abbrev pub status_of_run : Result ℕ Fault → ℕ
status_of_run (Ok status) = status
status_of_run (Err fault) = status_of fault

-- The words of the command line are faulty or ask for help (2), or memory ran out (5): nothing was
-- read or written.
pub record IsLineRefused (words : List Text) (old new : Streams) (status : ℕ) : Type 0 where
  pub said : ((status ≡ 2) × IsUnread words) ⊎ (status ≡ 5)
  pub same : new ≡ old

-- what the words ask for was done, with this status
pub record IsDone (opens : Opens) (words : List Text) (old new : Streams) (status : ℕ)
    : Type 0 where
  pub args : Args
  pub asked : IsLineOf words args
  pub result : Result ℕ Fault
  pub run : IsCommandRun opens args old new result
  pub is_status : status ≡ status_of_run result

-- the program ended on these words
abbrev pub IsEnd : Opens → List Text → Streams → Streams → ℕ → Type 0
IsEnd opens words old new status =
    IsLineRefused words old new status ⊎ IsDone opens words old new status

-- why there are no words: they aren't text (2), or memory ran out (5)
abbrev pub IsNoWords : ℕ → Type 0
IsNoWords status = (status ≡ 2) ⊎ (status ≡ 5)

-- there were none: nothing was read or written
pub record IsWordless (old new : Streams) (status : ℕ) : Type 0 where
  pub said : IsNoWords status
  pub same : new ≡ old

-- and on some words
abbrev pub IsStart : Opens → Streams → Streams → ℕ → Type 0
IsStart opens old new status = IsWordless old new status ⊎ ((words : List Text) × IsEnd opens words old new status)
