-- A faulty text is answered by its one fault.
use Rattle.std.{proofs.Common.{◌≡◌, ℕ, ◌⊎◌, List, Result, Ok, Err, Vec, arith}, specs.declared.alloc.Global.Global}
use Rattle.shop_model.specs.Shop.{Shop}
use Rattle.shop_text.specs.{Grammar.Grammar, Texts.{IsTextFault, OrNoMemory, OneReading}, declared.names.Named.Named}
use Rattle.shop_text.specs.{Names.{shops_of, FaultIsAnswered}, Schedules.{IsTableFault, OneTable, TableFaultIsAnswered}}
use Rattle.shop_text.specs.{declared.faults.ReadFault.ReadFault, declared.faults.ReadFault.TheVariants.NoMemory}

abbrev IsAnswer : Type 0 → ReadFault → ReadFault → Type 0
IsAnswer A e found =
    let told : Result A ReadFault = Err e
    in let wanted : Result A ReadFault = Err found
    in let none : Result A ReadFault = Err NoMemory
    in (told ≡ wanted) ⊎ (told ≡ none)

told : (A : Type 0) (IsBad : List ℕ → ReadFault → Type 0) (text : List ℕ) (e found : ReadFault)
    → (IsBad text e → e ≡ found) → OrNoMemory IsBad text e → IsAnswer A e found
told x y text e found one z = grind arith

pub answered : (g : Grammar) → OneReading g → FaultIsAnswered g
answered g one text found (Ok v) is read = absurd (one.not_both text (shops_of v.items) found read.0 is)
answered g one text found (Err e) is read =
    told (Vec Named Global) (IsTextFault g) text e found (λ bad. one.one_fault text e found bad is) read

pub table_answered : (shop : Shop) → OneTable shop → TableFaultIsAnswered shop
table_answered shop one text found (Ok rows) is read = absurd (one.not_both text rows found read is)
table_answered shop one text found (Err e) is read =
    told (List (List ℕ)) (IsTableFault shop) text e found (λ bad. one.one_fault text e found bad is) read
