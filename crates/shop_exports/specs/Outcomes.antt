-- How a call of C ends, and what it leaves in the caller's room. Statuses: 0 done, 100 a room that is
-- too small, 101 a faulty argument, and else the number of a refusal.
use Rattle.std.specs.Prelude.{◌≡◌, ℕ, ◌<◌, ◌≤◌, Bool, false, List, ◌++◌, length, drop}
use Rattle.shop_text.specs.{declared.faults.ReadFault.ReadFault, declared.faults.ReadFault.TheVariants.NoMemory}
use Rattle.shop_text.specs.declared.faults.ReadFault.TheVariants.{TooLong, NoInstance, BadShape, BadSize, BadRow}
use Rattle.shop_text.specs.declared.faults.ReadFault.TheVariants.{Truncated, BadMachine, BadTime, NoSuchName, BadTable}
use Rattle.shop_exports.specs.declared.outcomes.CallResult.{CallResult}

-- the number that the program prints of it, as `error 7`
abbrev pub status_of : ReadFault → ℕ
status_of NoMemory = 1
status_of TooLong = 3
status_of NoInstance = 4
status_of (BadShape n) = 5
status_of (BadSize n) = 6
status_of (BadRow n) = 7
status_of (Truncated n) = 8
status_of (BadMachine n) = 9
status_of (BadTime n) = 10
status_of NoSuchName = 11
status_of (BadTable n) = 12

-- lines count from 1
abbrev pub line_of : ReadFault → ℕ
line_of NoMemory = 0
line_of TooLong = 0
line_of NoInstance = 0
line_of (BadShape n) = n
line_of (BadSize n) = n
line_of (BadRow n) = n
line_of (Truncated n) = n
line_of (BadMachine n) = n
line_of (BadTime n) = n
line_of NoSuchName = 0
line_of (BadTable n) = n

-- the outcome of a refusal, and where an argument is faulty
abbrev pub is_refused : ReadFault → CallResult
is_refused fault =
    record { status = status_of fault; feasible = false; line = line_of fault; length = 0 }

abbrev pub is_faulty : CallResult
is_faulty = record { status = 101; feasible = false; line = 0; length = 0 }

-- A text is given: it stands at the front of the room, and the rest of the room is as it was; or it
-- is longer than the room, and all of the room is as it was.
pub record IsGiven (feasible : Bool) (text room room' : List ℕ) (outcome : CallResult) : Type 0 where
  pub is_feasible : outcome.feasible ≡ feasible
  pub no_line : outcome.line ≡ 0
  pub long : outcome.length ≡ length text
  pub fits : length text ≤ length room → (outcome.status ≡ 0) × (room' ≡ text ++ drop (length text) room)
  pub too_long : length room < length text → (outcome.status ≡ 100) × (room' ≡ room)
