-- What is known of devices, and what calls do to them.
use Rattle.std.specs.Prelude.{◌≡◌, ℕ, ◌+◌, ◌≤◌, ◌<◌, ◌⊎◌, min, List, ◌++◌, length, Option, Result, Ok, Err, Some}
use Rattle.std.specs.{Prelude.MatchResult, Io.KnownBytes.{Consumes, Appends, IsAtEnd}}
use Rattle.shop_text.specs.{declared.limits.TheConstants.MAX_TEXT, declared.faults.ReadFault.ReadFault}
use Rattle.shop_engine.specs.declared.faults.Fault.TheVariants.{NoMemory, TooLong, ReadFailed, WriteFailed}
use Rattle.shop_engine.specs.{declared.memory.Memory.Memory, declared.faults.Fault.Fault, Faults.fault_of}

-- What is known of a device: the bytes that a source has left, or that a sink holds, how often it
-- has failed, and how often a source has told its end. Where nothing is known of the bytes, as of a
-- file or a terminal, there are none.
pub record Device : Type 0 where
  pub bytes : Option (List ℕ)
  pub failures : ℕ
  pub ends : ℕ

abbrev pub device_of : Memory → Device
device_of memory = record { bytes = Some memory.held.items; failures = memory.failures; ends = 0 }

-- no failure; one failure more
abbrev pub HasWorked : Device → Device → Type 0
HasWorked old new = new.failures ≡ old.failures

-- a count rises by one; at 2^64 - 1 it stays
abbrev pub counted : ℕ → ℕ
counted n = min (n + 1) 18446744073709551615

abbrev pub HasFailed : Device → Device → Type 0
HasFailed old new = new.failures ≡ counted old.failures

-- its end wasn't told; it was, once
abbrev pub GoesOn : Device → Device → Type 0
GoesOn old new = new.ends ≡ old.ends

abbrev pub HasEnded : Device → Device → Type 0
HasEnded old new = new.ends ≡ counted old.ends

-- a call counts a failure exactly where it answers one
abbrev pub Counts : {A E : Type 0} → Device → Device → Result A E → Type 0
Counts old new result = MatchResult result (λ n. HasWorked old new) (λ e. HasFailed old new)

-- a read into so many bytes tells the end exactly where there is room and it gives nothing
pub record TellsEnd (old new : Device) (room given : ℕ) : Type 0 where
  pub ended : 0 < room → given ≡ 0 → HasEnded old new
  pub goes_on : (room ≡ 0) ⊎ (0 < given) → GoesOn old new

-- all was read, and the end was told once: nothing was read after it
pub record IsReadToEnd (old new : Device) (text : List ℕ) : Type 0 where
  pub taken : Consumes old.bytes new.bytes text
  pub end : IsAtEnd new.bytes
  pub told : HasEnded old new
  pub worked : HasWorked old new

-- it was left after one byte more than a text may have
pub record IsLeftUnread (old new : Device) : Type 0 where
  pub text : List ℕ
  pub taken : Consumes old.bytes new.bytes text
  pub one_more : length text ≡ MAX_TEXT + 1
  pub untold : GoesOn old new
  pub worked : HasWorked old new

-- a read failed, before the end was told
pub record HasReadFailed (old new : Device) : Type 0 where
  pub failed : HasFailed old new
  pub untold : GoesOn old new

-- no read failed, and the end was told at most once
pub record HasReadOnce (old new : Device) : Type 0 where
  pub worked : HasWorked old new
  pub once : GoesOn old new ⊎ HasEnded old new

-- a sink took the text
pub record IsWritten (old new : Device) (text : List ℕ) : Type 0 where
  pub took : Appends old.bytes new.bytes text
  pub worked : HasWorked old new

-- a sink failed, after a beginning of the text
pub record IsCutOff (old new : Device) (text : List ℕ) : Type 0 where
  pub gone : List ℕ
  pub left : List ℕ
  pub cut : text ≡ gone ++ left
  pub some_left : 0 < length left
  pub took : Appends old.bytes new.bytes gone
  pub failed : HasFailed old new

-- why reading to the end was given up: memory ran out, the source has more than a text may have, or it failed
abbrev pub IsUnread : Device → Device → Fault → Type 0
IsUnread old new fault = ((fault ≡ NoMemory) × HasWorked old new × GoesOn old new)
    ⊎ ((fault ≡ TooLong) × IsLeftUnread old new) ⊎ ((fault ≡ ReadFailed) × HasReadFailed old new)

-- why writing was given up
abbrev pub IsUnwritten : Device → Device → List ℕ → Fault → Type 0
IsUnwritten old new text fault = (fault ≡ WriteFailed) × IsCutOff old new text

-- ---- between a read and a write

-- the source was read to its end, and for its text this goes out
pub record Passes (old new : Device) (Gives : List ℕ → List ℕ → Type 0) (Goes : List ℕ → Type 0)
    : Type 0 where
  pub text : List ℕ
  pub read : IsReadToEnd old new text
  pub out : List ℕ
  pub gives : Gives text out
  pub goes : Goes out

-- the source was read to its end, and its text is refused for this
pub record IsRefusedWhole (old new : Device) (IsBad : List ℕ → ReadFault → Type 0) (fault : Fault)
    : Type 0 where
  pub text : List ℕ
  pub short : length text ≤ MAX_TEXT
  pub read : IsReadToEnd old new text
  pub found : ReadFault
  pub is_bad : IsBad text found
  pub told : fault ≡ fault_of found

-- why nothing was had of a source: memory ran out, it has more than a text may have, it failed, or
-- its text is refused
abbrev pub IsSourceRefused : Device → Device → (List ℕ → ReadFault → Type 0) → Fault → Type 0
IsSourceRefused old new IsBad fault = ((fault ≡ NoMemory) × HasReadOnce old new)
    ⊎ ((fault ≡ TooLong) × IsLeftUnread old new)
    ⊎ ((fault ≡ ReadFailed) × HasReadFailed old new)
    ⊎ IsRefusedWhole old new IsBad fault

-- What is answered where a text is read to the end and what it gives is written. On success the
-- sink took just that, and no device failed. A refusal is that of all bytes of the source; it and a
-- failed read leave the sink as it was. After a failed write a beginning is out.
abbrev pub IsTransfer : (List ℕ → List ℕ → Type 0) → (List ℕ → ReadFault → Type 0) → Device → Device
    → Device → Device
    → Result (Unit {0}) Fault → Type 0
IsTransfer Gives IsBad source source' sink sink' (Ok done) = Passes source source' Gives (IsWritten sink sink')
IsTransfer Gives IsBad source source' sink sink' (Err fault) =
    (IsSourceRefused source source' IsBad fault × (sink' ≡ sink))
    ⊎ ((fault ≡ WriteFailed) × Passes source source' Gives (IsCutOff sink sink'))
