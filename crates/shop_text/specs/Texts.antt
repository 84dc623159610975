-- Instance texts: what a text is read as, and the one fault of a text that isn't read.
use Rattle.std.specs.Prelude.{◌≡◌, ℕ, ◌+◌, ◌≤◌, ◌<◌, ◌⊎◌, Bool, if◌then◌else◌, List, [], ◌∷◌, length, is_some}
use Rattle.std.specs.{List.{list_any, filter_map, flat_map}, Fmt.decimal}
use Rattle.shop_text.specs.{declared.limits.TheConstants.MAX_TEXT, Lines.{Numbered, lines_of, numbered_lines}}
use Rattle.shop_text.specs.{Grammar.{Grammar, Part, entry_rows, IsGood, IsFault}, declared.faults.ReadFault.ReadFault}
use Rattle.shop_text.specs.declared.faults.ReadFault.TheVariants.{NoMemory, TooLong}
use Rattle.shop_model.specs.Shop.{Shop}

pub record NamedShop : Type 0 where
  pub name : List ℕ
  pub shop : Shop

abbrev pub is_header : Grammar → Numbered → Bool
is_header grammar line = is_some (grammar.header line.1)

abbrev pub from_first_header : Grammar → List Numbered → List Numbered
from_first_header grammar [] = []
from_first_header grammar (line ∷ lines) =
    if is_header grammar line then line ∷ lines else from_first_header grammar lines

abbrev pub unless_headed : Grammar → List Numbered → List Numbered
unless_headed grammar lines = if list_any (is_header grammar) lines then from_first_header grammar lines else lines

-- the lines that count: if there is a header, all before the first one are struck
abbrev pub lines_left : Grammar → List ℕ → List Numbered
lines_left grammar text = unless_headed grammar (numbered_lines text)

-- the last of some names
abbrev pub last_or : List ℕ → List (List ℕ) → List ℕ
last_or name [] = name
last_or name (next ∷ names) = last_or next names

-- the names that text lines give
abbrev pub headers_of : Grammar → List Numbered → List (List ℕ)
headers_of grammar lines = filter_map (λ line. grammar.header line.1) lines

-- the name of the n-th part: that of the last header in it, else its number
abbrev pub name_of : Grammar → ℕ → Part → List ℕ
name_of grammar n part = last_or (decimal n) (headers_of grammar (flat_map (λ e. e.before) part))

abbrev pub named_from : Grammar → ℕ → List Part → List NamedShop
named_from grammar n [] = []
named_from grammar n (part ∷ parts) =
    record { name = name_of grammar n part; shop = grammar.shop (entry_rows part) }
    ∷ named_from grammar (n + 1) parts

-- the text is good, and these are its instances with their names
pub record IsText (grammar : Grammar) (text : List ℕ) (shops : List NamedShop) : Type 0 where
  pub short : length text ≤ MAX_TEXT
  pub parts : List Part
  pub good : IsGood grammar (lines_left grammar text) parts
  pub shops_are : shops ≡ named_from grammar 1 parts

-- the text has too many bytes
pub record IsTooLong (text : List ℕ) (fault : ReadFault) : Type 0 where
  pub long : MAX_TEXT < length text
  pub told : fault ≡ TooLong

-- its lines have this fault
pub record HasLineFault (grammar : Grammar) (text : List ℕ) (fault : ReadFault) : Type 0 where
  pub short : length text ≤ MAX_TEXT
  pub in_lines : IsFault grammar (length (lines_of text)) (lines_left grammar text) fault

-- this is the text's fault
abbrev pub IsTextFault : Grammar → List ℕ → ReadFault → Type 0
IsTextFault grammar text fault = IsTooLong text fault ⊎ HasLineFault grammar text fault

-- the text has a fault, or memory ran out over a text that isn't too long
abbrev pub OrNoMemory : (List ℕ → ReadFault → Type 0) → List ℕ → ReadFault → Type 0
OrNoMemory IsBad text fault = ((fault ≡ NoMemory) × (length text ≤ MAX_TEXT)) ⊎ IsBad text fault

-- A text is good for one list of named instances at most, and has one fault at most, and never both.
pub record OneReading (grammar : Grammar) : Type 0 where
  pub one_list : (text : List ℕ) (shops others : List NamedShop)
      → IsText grammar text shops → IsText grammar text others → shops ≡ others
  pub one_fault : (text : List ℕ) (fault other : ReadFault)
      → IsTextFault grammar text fault → IsTextFault grammar text other → fault ≡ other
  pub not_both : (text : List ℕ) (shops : List NamedShop) (fault : ReadFault)
      → IsText grammar text shops → IsTextFault grammar text fault → ⊥

-- some list of named instances, or some fault
abbrev pub HasReading : Grammar → List ℕ → Type 0
HasReading grammar text =
    ((shops : List NamedShop) × IsText grammar text shops) ⊎ ((fault : ReadFault) × IsTextFault grammar text fault)

-- Each text is good for some list of named instances, or has some fault.
abbrev pub SomeReading : Grammar → Type 0
SomeReading grammar = (text : List ℕ) → HasReading grammar text
