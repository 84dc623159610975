-- What the parts of the readers tell, in the words of the grammar.
use Rattle.std.specs.Prelude.{◌≡◌, ◌⊎◌, min, ℕ, ◌+◌, ◌<◌, ◌≤◌, ◌==◌, true, false, not, length, filter, take, get_or}
use Rattle.std.specs.Prelude.{List, [], ◌∷◌, ◌++◌, map, if◌then◌else◌, Option, Some, None, Result, Ok, Err}
use Rattle.std.specs.{List.enumerate_from, Char.is_ascii_digit}
use Rattle.shop_text.specs.Lines.{Numbered, is_left, line_of, lines_of, is_number}
use Rattle.shop_text.specs.{Lines.{value_of, tokens_of}, Grammar.{LineFault, WrongRow, fault_at, Row}}
use Rattle.shop_text.specs.Formats.{jobs_in, machines_in, times_fault}
use Rattle.shop_text.specs.{Formats.machines_fault, declared.faults.ReadFault.ReadFault}
use Rattle.shop_text.specs.{declared.faults.ReadFault.TheVariants.NoMemory}

-- a number as a reader holds it: all that is above the greatest is that
abbrev pub capped : ℕ → ℕ
capped n = min n 18446744073709551615

-- the number that a token is, as a reader holds it, if it is one
abbrev pub number_in : List ℕ → Option ℕ
number_in token = if is_number token then Some (capped (value_of token)) else None

-- The digits that a text begins with, and their value as a reader holds it.
pub record AreLeadingDigits (text : List ℕ) (value digits : ℕ) : Type 0 where
  pub within : digits ≤ length text
  pub are : is_number (take digits text) ≡ true
  pub is : value ≡ capped (value_of (take digits text))
  pub over : digits < length text → is_ascii_digit (get_or text digits 0) ≡ false

-- The first token of a line was cut off, and this is its number, if it is one.
abbrev pub IsNumberCut : List ℕ → Option ℕ → List ℕ → Type 0
IsNumberCut line number rest = (token : List ℕ) × (tokens_of line ≡ token ∷ tokens_of rest) × (number ≡ number_in token)

-- the numbers so far, with those of more tokens, if these are numbers
abbrev pub with_tokens : List ℕ → List (List ℕ) → Option (List ℕ)
with_tokens numbers [] = Some numbers
with_tokens numbers (token ∷ tokens) =
    if is_number token then with_tokens (numbers ++ capped (value_of token) ∷ []) tokens else None

-- the lines that aren't blank in what is left of a text, after some lines
abbrev pub lines_after : ℕ → List ℕ → List Numbered
lines_after passed text = filter is_left (enumerate_from (passed + 1) (map line_of (lines_of text)))

-- the rest of a text behind its first lines
pub record IsBehind (text : List ℕ) (passed : ℕ) (rest : List ℕ) : Type 0 where
  pub lines : passed + length (lines_of rest) ≡ length (lines_of text)
  pub bytes : passed + length rest ≤ length text

-- A call judges a line: a value that is so where nothing is refused, else the fault, unless memory ran out.
abbrev pub located : ℕ → Option LineFault → Option ReadFault
located n None = None
located n (Some name) = Some (fault_at n name)

abbrev pub Fails : ReadFault → ℕ → Option LineFault → Type 0
Fails e n fault = (e ≡ NoMemory) ⊎ (located n fault ≡ Some e)

abbrev pub JudgesRow : {X : Type 0} → Result X ReadFault → ℕ → Option LineFault → (X → Type 0) → Type 0
JudgesRow (Ok x) n fault P = (fault ≡ None) × P x
JudgesRow (Err e) n fault P = Fails e n fault

-- ---- number lines

-- the jobs and machines that a size line says
abbrev pub IsSizeIn : Row → ℕ × ℕ → Type 0
IsSizeIn row (jobs, machines) = (jobs ≡ jobs_in row) × (machines ≡ machines_in row)

-- why a row of times and a row of machines are refused
abbrev pub times_row_fault : ℕ → Row → Option LineFault
times_row_fault machines row = if not (length row == machines) then Some WrongRow else times_fault row

abbrev pub machines_row_fault : ℕ → Row → Option LineFault
machines_row_fault machines row = if not (length row == machines) then Some WrongRow else machines_fault machines row
