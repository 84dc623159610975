-- Why no text came of a source.
use Rattle.std.proofs.Common.{arith, ◌≡◌, ℕ, ◌≤◌, inl, inr, List, length, Result, Ok, Err, sym, subst}
use Rattle.std.{proofs.lemmas.Grind.common_steps, specs.Result.IsErrAnd}
use Rattle.shop_text.specs.{Texts.OrNoMemory, declared.faults.ReadFault.ReadFault}
use Rattle.shop_engine.specs.{declared.faults.Fault.Fault, Faults.fault_of}
use Rattle.shop_engine.specs.Devices.{Device, IsReadToEnd, IsUnread, IsSourceRefused}

-- an answer that comes through a `?`
pub at_err : {A : Type 0} (P : Result A Fault → Type 0) (r : Result A Fault) (e : Fault)
    → IsErrAnd r (λ x. x ≡ e) → P (Err e) → P r
at_err P (Ok b) e h p = absurd h
at_err P (Err x) e h p = subst (λ (y : Fault). P (Err y)) (sym h) p

-- it wasn't read to its end
pub unread : {old new : Device} {e : Fault} (IsBad : List ℕ → ReadFault → Type 0) → IsUnread old new e
    → IsSourceRefused old new IsBad e
unread IsBad (inl none) = inl (none.0, record { worked = none.1; once = inl none.2 })
unread IsBad (inr (inl left)) = inr (inl left)
unread IsBad (inr (inr failed)) = inr (inr (inl failed))

-- its text is refused, or memory ran out
pub bad_text : {old new : Device} {text : List ℕ} (IsBad : List ℕ → ReadFault → Type 0) (found : ReadFault)
    → IsReadToEnd old new text → length text ≤ 16777216 → OrNoMemory IsBad text found
    → IsSourceRefused old new IsBad (fault_of found)
bad_text IsBad found read short (inl none) = grind (arith, common_steps, none.0, read.worked, read.told)
bad_text {text = text} IsBad found read short (inr bad) = grind (arith, common_steps)
