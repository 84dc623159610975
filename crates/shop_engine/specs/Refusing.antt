-- A text that is refused is answered by its one refusal.
--     Refuses IsBad source result    where the source's bytes are known and bad, they are refused
use Rattle.std.specs.Prelude.{◌≡◌, ℕ, ◌⊎◌, List, Bool, Some, Result, Ok, Err}
use Rattle.shop_text.specs.{Texts.IsTextFault, declared.faults.ReadFault.ReadFault, Formats.grammar_of}
use Rattle.shop_engine.specs.{declared.args.ListArgs.ListArgs, declared.args.CheckArgs.CheckArgs}
use Rattle.shop_engine.specs.{declared.args.SolveArgs.SolveArgs, declared.faults.Fault.Fault}
use Rattle.shop_engine.specs.{declared.faults.Fault.TheVariants.{NoMemory, ReadFailed}, Faults.fault_of, Devices.Device}
use Rattle.shop_engine.specs.{Asking.{name_in, IsAskFault}, Listing.IsListing, Checking.{Second, IsChecking}}
use Rattle.shop_engine.specs.Solving.{IsSolving}

-- the text is refused by this fault, or else memory ran out or a read failed
abbrev pub IsRefusal : {A : Type 0} → ReadFault → Result A Fault → Type 0
IsRefusal fault (Ok a) = ⊥
IsRefusal fault (Err told) = (told ≡ NoMemory) ⊎ (told ≡ ReadFailed) ⊎ (told ≡ fault_of fault)

abbrev pub Refuses : {A : Type 0} → (List ℕ → ReadFault → Type 0) → Device → Result A Fault → Type 0
Refuses IsBad source result = (text : List ℕ) (fault : ReadFault) → source.bytes ≡ Some text → IsBad text fault
    → IsRefusal fault result

-- what `list_text` ensures refuses each text that has a fault
abbrev pub ListingRefuses : Type 0
ListingRefuses = (args : ListArgs) (source source' sink sink' : Device) (result : Result (Unit {0}) Fault)
    → IsListing args source source' sink sink' result → Refuses (IsTextFault (grammar_of args.format)) source result

-- what `check_text` and `solve_text` ensure refuses in this way, and each text that has no instance of the name
abbrev pub CheckingRefuses : Type 0
CheckingRefuses = (args : CheckArgs) (source source' : Device) (second second' : Second) (sink sink' : Device)
    (result : Result Bool Fault) → IsChecking args source source' second second' sink sink' result
    → Refuses (IsAskFault args.format (name_in args.name)) source result

abbrev pub SolvingRefuses : Type 0
SolvingRefuses = (args : SolveArgs) (source source' sink sink' : Device) (result : Result (Unit {0}) Fault)
    → IsSolving args source source' sink sink' result
    → Refuses (IsAskFault args.format (name_in args.name)) source result
