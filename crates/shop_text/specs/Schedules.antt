-- Schedule texts: a line for each job, in order; lines that don't begin with the token `job` are skipped.
--     counted_lines text        the lines whose first token is exactly `job`, with their numbers
--     starts_in j steps tokens  the starts of a line of job j, if it is one
--     IsTable shop text rows    the text gives this table, one row a job
--     IsTableFault shop text fault the one fault of a text that gives none
--     IsTableRead shop text result what reading a text answers
use Rattle.std.specs.Prelude.{◌≡◌, ℕ, ◌+◌, ◌-◌, ◌<◌, ◌≤◌, ◌⊎◌, Bool, false, not, ◌&&◌, ◌==◌, nat_lt, nat_le}
use Rattle.std.specs.Prelude.{if◌then◌else◌, List, [], ◌∷◌, ◌++◌, length, map, filter, take, Option, Some, None, Result}
use Rattle.std.specs.{Prelude.{Ok, Err, codes}, List.{list_all, enumerate_from}, Str.bytes_eq}
use Rattle.shop_model.specs.{declared.limits.TheConstants.MAX_START, Shop.{Shop, route_of}}
use Rattle.shop_text.specs.{declared.limits.TheConstants.MAX_TEXT, Lines.{lines_of, tokens_of, is_empty, is_number}}
use Rattle.shop_text.specs.{Lines.value_of, Texts.{IsTooLong, OrNoMemory}, declared.faults.ReadFault.ReadFault}
use Rattle.shop_text.specs.declared.faults.ReadFault.TheVariants.{NoMemory, BadTable}

abbrev pub Tokens : Type 0
Tokens = List (List ℕ)

abbrev pub begins_with_job : Tokens → Bool
begins_with_job [] = false
begins_with_job (token ∷ tokens) = bytes_eq token (codes "job")

abbrev pub is_counted : ℕ × Tokens → Bool
is_counted line = begins_with_job line.1

-- lines count from 1, blank ones and those that are skipped too
abbrev pub counted_lines : List ℕ → List (ℕ × Tokens)
counted_lines text = filter is_counted (enumerate_from 1 (map tokens_of (lines_of text)))

-- one or more decimal digits of value j, followed at once by a colon
abbrev pub is_label : ℕ → List ℕ → Bool
is_label j token =
    let digits = take (length token - 1) token
    in bytes_eq token (digits ++ codes ":") && not (is_empty digits) && is_number digits
    && (value_of digits == j)

-- a number within the limit of starts
abbrev pub is_start : List ℕ → Bool
is_start token = is_number token && nat_le (value_of token) MAX_START

-- the starts that these tokens are, if there is one for each step
abbrev pub starts_of_tokens : ℕ → Tokens → Option (List ℕ)
starts_of_tokens steps tokens =
    if (length tokens == steps) && list_all is_start tokens then Some (map value_of tokens)
    else None

-- A line of job j has the token `job`, the label of j, and a start for each of its steps.
abbrev pub starts_in : ℕ → ℕ → Tokens → Option (List ℕ)
starts_in j steps [] = None
starts_in j steps (word ∷ []) = None
starts_in j steps (word ∷ label ∷ starts) = if is_label j label then starts_of_tokens steps starts
    else None

-- the row that a line gives to job j, if j is a job and this is a line of it
abbrev pub row_in : Shop → ℕ → Tokens → Option (List ℕ)
row_in shop j tokens = if nat_lt j (length shop.jobs) then starts_in j (length (route_of shop j)) tokens else None

-- these lines are those of jobs 0, 1 and so on, and give these rows
abbrev pub AreJobLines : Shop → List (ℕ × Tokens) → List (List ℕ) → Type 0
AreJobLines shop lines rows = map (λ place. row_in shop place.0 place.1.1) (enumerate_from 0 lines) ≡ map Some rows

pub record IsTable (shop : Shop) (text : List ℕ) (rows : List (List ℕ)) : Type 0 where
  pub short : length text ≤ MAX_TEXT
  pub lines : AreJobLines shop (counted_lines text) rows
  pub jobs : length rows ≡ length shop.jobs

-- After the lines of jobs 0 to j less 1 the text goes wrong at line n: the next counted line is
-- none of job j, or there is no further one and job j waits for its line; that one is missed after
-- all `last` lines of the text.
abbrev pub GoesWrong : Shop → ℕ → ℕ → List (ℕ × Tokens) → ℕ → Type 0
GoesWrong shop last j [] n = (j < length shop.jobs) × (n ≡ last + 1)
GoesWrong shop last j (line ∷ later) n = (row_in shop j line.1 ≡ None) × (n ≡ line.0)

pub record IsBadAt (shop : Shop) (text : List ℕ) (n : ℕ) : Type 0 where
  pub before : List (ℕ × Tokens)
  pub rows : List (List ℕ)
  pub later : List (ℕ × Tokens)
  pub cut : counted_lines text ≡ before ++ later
  pub good : AreJobLines shop before rows
  pub wrong : GoesWrong shop (length (lines_of text)) (length before) later n

-- the text has too many bytes, or goes wrong at a line
abbrev pub IsTableFault : Shop → List ℕ → ReadFault → Type 0
IsTableFault shop text fault = IsTooLong text fault
    ⊎ ((n : ℕ) × (fault ≡ BadTable n) × (length text ≤ MAX_TEXT) × IsBadAt shop text n)

-- A text that gives a table is read as that, and another is refused by its fault. Memory may run
-- out in either, but a text that is too long is refused as that.
abbrev pub IsTableRead : Shop → List ℕ → Result (List (List ℕ)) ReadFault → Type 0
IsTableRead shop text (Ok rows) = IsTable shop text rows
IsTableRead shop text (Err fault) = OrNoMemory (IsTableFault shop) text fault

-- A text gives one table at most, has one fault at most, and never both.
pub record OneTable (shop : Shop) : Type 0 where
  pub one_table : (text : List ℕ) (rows others : List (List ℕ)) → IsTable shop text rows → IsTable shop text others
      → rows ≡ others
  pub one_fault : (text : List ℕ) (x y : ReadFault) → IsTableFault shop text x → IsTableFault shop text y → x ≡ y
  pub not_both : (text : List ℕ) (rows : List (List ℕ)) (x : ReadFault) → IsTable shop text rows
      → IsTableFault shop text x → ⊥

-- Each text gives some table, or has some fault.
abbrev pub SomeTable : Shop → Type 0
SomeTable shop = (text : List ℕ)
    → ((rows : List (List ℕ)) × IsTable shop text rows) ⊎ ((x : ReadFault) × IsTableFault shop text x)

-- What `IsTableRead` says of a text that has a fault: it is answered by it, unless memory runs out.
abbrev pub TableFaultIsAnswered : Shop → Type 0
TableFaultIsAnswered shop = (text : List ℕ) (found : ReadFault) (result : Result (List (List ℕ)) ReadFault)
    → IsTableFault shop text found → IsTableRead shop text result → (result ≡ Err found) ⊎ (result ≡ Err NoMemory)
