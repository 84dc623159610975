-- What a reader has of the lines that it has read.
use Rattle.std.specs.Prelude.{◌≡◌, ℕ, ◌<◌, ◌⊎◌, List, [], ◌∷◌, ◌++◌, length, filter, string_bytes, Option, Some, None}
use Rattle.std.specs.{Prelude.{Result, Ok, Err, Vec, String}, List.flat_map, declared.alloc.Global.Global}
use Rattle.shop_text.specs.Grammar.{Grammar, Entry, Part, entry_rows, IsGood, IsBegun, IsRefused, IsFault}
use Rattle.shop_text.specs.Texts.{lines_left, headers_of, last_or, named_from}
use Rattle.shop_text.specs.{declared.faults.ReadFault.TheVariants.NoMemory, inner.LineReading.{lines_after, IsBehind}}
use Rattle.shop_text.specs.{declared.instance_readers.Reader.Reader, declared.faults.ReadFault.ReadFault}
use Rattle.shop_text.specs.{declared.formats.Format.Format, Lines.{Line, Numbered, is_left}, declared.names.Named.Named}
use Rattle.shop_text.specs.{inner.Drafts.IsDraft, Formats.grammar_of, Names.shops_of}

-- the text lines before the number lines of a part
abbrev pub texts_of : List Entry → List Numbered
texts_of entries = flat_map (λ e. e.before) entries

abbrev pub name_or : List ℕ → Option (String Global) → List ℕ
name_or otherwise None = otherwise
name_or otherwise (Some name) = string_bytes name

-- the name is the last of these headers
abbrev pub IsLast : Option (String Global) → List (List ℕ) → Type 0
IsLast name headers = (otherwise : List ℕ) → last_or otherwise headers ≡ name_or otherwise name

-- The lines are some parts and the beginning of one: the parts are in the list, with their names,
-- what is begun is in the draft, and the name is that of the last header since.
pub record IsReadUpTo (reader : Reader) (lines : List Numbered) : Type 0 where
  pub begun : List Entry
  pub place : IsBegun (grammar_of reader.format) lines begun
  pub draft_holds : IsDraft reader.format reader.draft (entry_rows begun)
  pub named_are : shops_of reader.named.items ≡ named_from (grammar_of reader.format) 1 place.parts
  pub name_is : IsLast reader.name (headers_of (grammar_of reader.format) (texts_of begun ++ place.after))

-- a line, unless it is blank
abbrev pub left_of : ℕ → Line → List Numbered
left_of n line = filter is_left ((n, line) ∷ [])

-- what comes of one more line: it is read, or refused, or memory ran out
abbrev pub Takes : {X : Type 0} → Format → Reader → List Numbered → ℕ → Line → Result X ReadFault → Type 0
Takes p reader front n line (Ok x) = (reader.format ≡ p) × IsReadUpTo reader (front ++ left_of n line)
Takes p reader front n line (Err e) = (e ≡ NoMemory)
    ⊎ ((later : List Numbered) → IsRefused (grammar_of p) (front ++ (left_of n line ++ later)) e)

-- lines that are good, with what was read of them
pub record AreRead (grammar : Grammar) (lines : List Numbered) (named : Vec Named Global) : Type 0 where
  pub parts : List Part
  pub good : IsGood grammar lines parts
  pub named_are : shops_of named.items ≡ named_from grammar 1 parts
  pub some : 0 < length named.items

-- what comes of the end, behind so many lines
abbrev pub Ends : Grammar → ℕ → List Numbered → Result (Vec Named Global) ReadFault → Type 0
Ends grammar last lines (Ok named) = AreRead grammar lines named
Ends grammar last lines (Err e) = IsFault grammar last lines e

-- the lines that count are those that are read and those that are still to come
pub record IsOnTheWay (text : List ℕ) (number : ℕ) (rest : List ℕ) (p : Format) (reader : Reader) : Type 0 where
  pub front : List Numbered
  pub cut : lines_left (grammar_of p) text ≡ front ++ lines_after number rest
  pub same : reader.format ≡ p
  pub read : IsReadUpTo reader front
  pub behind : IsBehind text number rest
