-- Named instances, as readers give them.
--     shops_of named              what stands in a list of named instances
--     IsRead grammar text result  what reading a text answers
use Rattle.std.specs.Prelude.{◌≡◌, ◌⊎◌, ℕ, ◌<◌, List, [], ◌∷◌, length, map, find, Option, Some, None, Result, Ok, Err}
use Rattle.std.specs.{Prelude.{Vec, string_bytes}, Borrow.Bor, Str.bytes_eq, declared.alloc.Global.Global}
use Rattle.shop_text.specs.{Texts.{NamedShop, IsText, IsTextFault, OrNoMemory}, Grammar.Grammar}
use Rattle.shop_text.specs.{declared.names.Named.Named, declared.faults.ReadFault.ReadFault}
use Rattle.shop_text.specs.declared.faults.ReadFault.TheVariants.{NoMemory, NoSuchName}

abbrev pub shop_of_named : Named → NamedShop
shop_of_named n = record { name = string_bytes n.name; shop = n.instance }

abbrev pub shops_of : List Named → List NamedShop
shops_of named = map shop_of_named named

-- A text that is good is read as what it says, and another is refused by its fault. Memory may run
-- out in either, but a text that is too long is refused as that.
abbrev pub IsRead : Grammar → List ℕ → Result (Vec Named Global) ReadFault → Type 0
IsRead grammar text (Ok v) = IsText grammar text (shops_of v.items) × (0 < length v.items)
IsRead grammar text (Err fault) = OrNoMemory (IsTextFault grammar) text fault

-- What `IsRead` says of a text that has a fault: it is answered by it, unless memory runs out.
abbrev pub FaultIsAnswered : Grammar → Type 0
FaultIsAnswered grammar = (text : List ℕ) (fault : ReadFault) (result : Result (Vec Named Global) ReadFault)
    → IsTextFault grammar text fault → IsRead grammar text result → (result ≡ Err fault) ⊎ (result ≡ Err NoMemory)

-- the first instance of the name, or where no name is given the first one
abbrev pub first_of : List NamedShop → Option NamedShop
first_of [] = None
first_of (n ∷ named) = Some n

abbrev pub first_named : List NamedShop → Option (List ℕ) → Option NamedShop
first_named named None = first_of named
first_named named (Some name) = find (λ n. bytes_eq n.name name) named

-- the instance is the first of that name; where there is none, that is the fault
abbrev pub IsPick : List Named → Option (List ℕ) → Result (Bor Named) ReadFault → Type 0
IsPick named name (Ok n) = first_named (shops_of named) name ≡ Some (shop_of_named n.now)
IsPick named name (Err fault) = (fault ≡ NoSuchName) × (first_named (shops_of named) name ≡ None)
