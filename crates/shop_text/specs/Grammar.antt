-- The grammar of whole texts, over their numbered lines that aren't blank, and the one fault of every other text. (The
-- form is that of the OR-Library file jobshop1 and of the texts by Taillard's name, in this project's own format.)
--     Entry, Part                       a number line with the text lines before it; a part is a list of these
--     IsPart grammar part               the part is whole, and none of its lines is refused
--     IsGood grammar lines parts        the lines are these parts, one or more, and text lines alone after them
--     IsFault grammar last lines fault  the lines begin some list of parts, and the next line, or the end, is refused
use Rattle.std.specs.Prelude.{◌≡◌, ℕ, ◌+◌, ◌<◌, ◌⊎◌, Bool, false, IsTrue, List, [], ◌∷◌, ◌++◌, length, map, Option}
use Rattle.std.specs.{Prelude.{Some, None, if◌then◌else◌}, List.{flat_map, AllByRecursion}}
use Rattle.shop_model.specs.Shop.{Shop}
use Rattle.shop_text.specs.{Lines.{Line, Blank, Numbers, Words, Numbered}, declared.faults.ReadFault.ReadFault}
use Rattle.shop_text.specs.declared.faults.ReadFault.TheVariants.{NoInstance, Truncated, BadShape, BadSize, BadRow}
use Rattle.shop_text.specs.declared.faults.ReadFault.TheVariants.{BadMachine, BadTime}

-- why a line is refused: a size line by its count or its sizes, a row, a machine, a time
pub data LineFault : Type 0 where
  WrongShape : LineFault
  WrongSize : LineFault
  WrongRow : LineFault
  WrongMachine : LineFault
  WrongTime : LineFault

abbrev pub fault_at : ℕ → LineFault → ReadFault
fault_at n WrongShape = BadShape n
fault_at n WrongSize = BadSize n
fault_at n WrongRow = BadRow n
fault_at n WrongMachine = BadMachine n
fault_at n WrongTime = BadTime n

abbrev pub Row : Type 0
Row = List ℕ

-- By the number lines that a part has so far: whether text lines are skipped, why a number line is
-- refused, whether the part is whole; then which instance it is. And which text lines name one.
pub record Grammar : Type 0 where
  pub skips : List Row → Bool
  pub refuses : List Row → Row → Option LineFault
  pub is_whole : List Row → Bool
  pub shop : List Row → Shop
  pub header : Line → Option (List ℕ)

pub record Entry : Type 0 where
  pub before : List Numbered
  pub line : ℕ
  pub row : Row

abbrev pub Part : Type 0
Part = List Entry

abbrev pub entry_rows : List Entry → List Row
entry_rows entries = map (λ e. e.row) entries

-- the lines that it is made of
abbrev pub lines_of_entry : Entry → List Numbered
lines_of_entry e = e.before ++ (e.line, Numbers e.row) ∷ []

abbrev pub lines_of_part : Part → List Numbered
lines_of_part part = flat_map lines_of_entry part

abbrev pub lines_of_parts : List Part → List Numbered
lines_of_parts parts = flat_map lines_of_part parts

abbrev pub IsTextLine : Numbered → Type 0
IsTextLine (n, Words words) = Unit {0}
IsTextLine (n, Numbers row) = ⊥
IsTextLine (n, Blank) = ⊥

abbrev pub AreText : List Numbered → Type 0
AreText lines = AllByRecursion IsTextLine lines

-- text lines that are skipped after these rows of a part
abbrev pub AreSkipped : Grammar → List Row → List Numbered → Type 0
AreSkipped grammar rows lines = AreText lines × ((lines ≡ []) ⊎ IsTrue (grammar.skips rows))

pub record IsAccepted (grammar : Grammar) (rows : List Row) (e : Entry) : Type 0 where
  pub room : grammar.is_whole rows ≡ false
  pub text : AreSkipped grammar rows e.before
  pub row : grammar.refuses rows e.row ≡ None

-- each line is accepted after the rows before it
abbrev pub AreAccepted : Grammar → List Row → List Entry → Type 0
AreAccepted grammar rows [] = Unit {0}
AreAccepted grammar rows (e ∷ entries) = IsAccepted grammar rows e × AreAccepted grammar (rows ++ e.row ∷ []) entries

abbrev pub IsPart : Grammar → Part → Type 0
IsPart grammar part = AreAccepted grammar [] part × IsTrue (grammar.is_whole (entry_rows part))

pub record IsGood (grammar : Grammar) (lines : List Numbered) (parts : List Part) : Type 0 where
  pub after : List Numbered
  pub cut : lines ≡ lines_of_parts parts ++ after
  pub parts_good : AllByRecursion (IsPart grammar) parts
  pub after_text : AreText after
  pub some : 0 < length parts

-- The lines are some whole parts, the beginning of a part, and text lines that are skipped there.
pub record IsBegun (grammar : Grammar) (lines : List Numbered) (begun : List Entry) : Type 0 where
  pub parts : List Part
  pub after : List Numbered
  pub cut : lines ≡ lines_of_parts parts ++ lines_of_part begun ++ after
  pub parts_good : AllByRecursion (IsPart grammar) parts
  pub begun_good : AreAccepted grammar [] begun
  pub room : grammar.is_whole (entry_rows begun) ≡ false
  pub after_skipped : AreSkipped grammar (entry_rows begun) after

-- why the next line is refused after these rows, if it is: a text line that isn't skipped is no row
abbrev pub refusal : Grammar → List Row → Line → Option LineFault
refusal grammar rows (Words words) = if grammar.skips rows then None else Some WrongRow
refusal grammar rows (Numbers row) = grammar.refuses rows row
refusal grammar rows Blank = None

-- a line is refused at its place, behind lines that begin some list of parts
pub record IsRefused (grammar : Grammar) (lines : List Numbered) (fault : ReadFault) : Type 0 where
  pub before : List Numbered
  pub line : Numbered
  pub later : List Numbered
  pub cut : lines ≡ before ++ line ∷ later
  pub begun : List Entry
  pub place : IsBegun grammar before begun
  pub name : LineFault
  pub refused : refusal grammar (entry_rows begun) line.1 ≡ Some name
  pub told : fault ≡ fault_at line.0 name

-- the end comes inside a part: `last` lines has the text, blank ones too
pub record IsTruncated (grammar : Grammar) (last : ℕ) (lines : List Numbered)
    (fault : ReadFault) : Type 0 where
  pub begun : List Entry
  pub place : IsBegun grammar lines begun
  pub inside : 0 < length begun
  pub told : fault ≡ Truncated (last + 1)

-- the end comes before any size line
pub record IsWithoutInstance (lines : List Numbered) (fault : ReadFault) : Type 0 where
  pub text : AreText lines
  pub told : fault ≡ NoInstance

abbrev pub IsFault : Grammar → ℕ → List Numbered → ReadFault → Type 0
IsFault grammar last lines fault =
    IsWithoutInstance lines fault ⊎ IsTruncated grammar last lines fault
    ⊎ IsRefused grammar lines fault
