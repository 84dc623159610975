-- What `list` and `check` do to standard input and output.
--     ListsFrom, ChecksFrom  what a command did to a source and a sink, with its status
use Rattle.std.specs.Prelude.{◌≡◌, ℕ, ◌⊎◌, Bool, List, Option, Some, None, Result, Ok, Err, string_bytes}
use Rattle.std.specs.{declared.string.String.String, declared.alloc.Global.Global}
use Rattle.shop_engine.specs.{declared.args.ListArgs.ListArgs, declared.args.CheckArgs.CheckArgs}
use Rattle.shop_engine.specs.{declared.faults.Fault.Fault, declared.faults.Fault.TheVariants.ReadFailed, Devices.Device}
use Rattle.shop_engine.specs.{Listing.IsListing, Checking.IsChecking}
use Rattle.shop_program.specs.Statuses.{status_of_verdict}

-- standard input and standard output
pub record Streams : Type 0 where
  pub source : Device
  pub sink : Device

-- what opening a path may give: a file as it stands then, or none where it can't be opened
abbrev pub Opens : Type 1
Opens = List ℕ → Option Device → Type 0

-- a path of the command line, which may be missing
abbrev pub Path : Type 0
Path = Option (String Global)

-- the file that stands at a path: there is one just where a path is given
abbrev pub IsGiven : Opens → Path → Option Device → Type 0
IsGiven opens None None = Unit {0}
IsGiven opens None (Some file) = ⊥
IsGiven opens (Some path) None = ⊥
IsGiven opens (Some path) (Some file) = opens (string_bytes path) (Some file)

-- a path is given, and what stands there couldn't be opened
abbrev pub IsMissing : Opens → Path → Type 0
IsMissing opens None = ⊥
IsMissing opens (Some path) = opens (string_bytes path) None

-- the file at a path couldn't be opened: a failed read, before anything was read or written
pub record IsUnopened (opens : Opens) (path : String Global) (old new : Streams)
    (result : Result ℕ Fault) : Type 0 where
  pub missing : opens (string_bytes path) None
  pub failed : result ≡ Err ReadFailed
  pub same : new ≡ old

-- The command was run on the text of FILE: without a path on that of standard input, with one on
-- that of the file at that path, and standard input is as it was; or the file couldn't be opened.
abbrev pub IsRunOn : Opens → Path → Streams → Streams → Result ℕ Fault → (Device → Device → Type 0) → Type 0
IsRunOn opens None old new result Runs = Runs old.source new.source
IsRunOn opens (Some path) old new result Runs = IsUnopened opens path old new result
    ⊎ ((new.source ≡ old.source) × (file file' : Device) × opens (string_bytes path) (Some file)
    × Runs file file')

-- ---- what each command does to a source and the sink, and its status

-- 0 for a list
abbrev pub ListsFrom : ListArgs → Device → Device → Result ℕ Fault → Device → Device → Type 0
ListsFrom args sink sink' (Ok status) source source' = (status ≡ 0) × IsListing args source source' sink sink' (Ok tt)
ListsFrom args sink sink' (Err fault) source source' =
    IsListing args source source' sink sink' (Err fault)

-- the schedule is that of the file at SCHEDULE just where a path is given
abbrev pub HasChecked : Opens → CheckArgs → Path → Device → Device → Result Bool Fault → Device → Device → Type 0
HasChecked opens args schedule sink sink' result source source' = (second second' : Option Device)
    × IsGiven opens schedule second
    × IsChecking args source source' second second' sink sink' result

-- 0 for a feasible schedule, 1 for an infeasible one; or the schedule's file couldn't be opened
abbrev pub ChecksFrom : Opens → CheckArgs → Path → Device → Device → Result ℕ Fault → Device → Device → Type 0
ChecksFrom opens args schedule sink sink' (Ok status) source source' = (feasible : Bool)
    × (status ≡ status_of_verdict feasible)
    × HasChecked opens args schedule sink sink' (Ok feasible) source source'
ChecksFrom opens args schedule sink sink' (Err fault) source source' =
    (IsMissing opens schedule × (fault ≡ ReadFailed) × (source' ≡ source) × (sink' ≡ sink))
    ⊎ HasChecked opens args schedule sink sink' (Err fault) source source'
