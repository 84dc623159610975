-- A text as numbered lines of tokens.
--     lines_of text        the lines: what LF ends, and what follows the last LF unless it is empty
--     tokens_of bytes      the longest runs of bytes that are no separators
--     Line, line_of        a line is blank, or numbers alone, or a text line of words; `Numbered`: with its number
--     numbered_lines text  the lines that aren't blank, each with its number; lines count from 1, blank ones too
use Rattle.std.specs.Prelude.{ℕ, ◌+◌, ◌-◌, ◌*◌, Bool, true, false, not, ◌||◌, ◌==◌, if◌then◌else◌, List, [], ◌∷◌, map}
use Rattle.std.specs.{Prelude.{filter, fold}, List.{slice_split, list_all, enumerate_from}, Char.is_ascii_digit}

abbrev pub is_line_feed : ℕ → Bool
is_line_feed b = b == 10

-- space, tab, CR
abbrev pub is_separator : ℕ → Bool
is_separator b = (b == 32) || (b == 9) || (b == 13)

abbrev pub is_empty : List ℕ → Bool
is_empty [] = true
is_empty (b ∷ bytes) = false

-- all pieces, but the last one only where it isn't empty
abbrev pub ended : List (List ℕ) → List (List ℕ)
ended [] = []
ended (piece ∷ []) = if is_empty piece then [] else piece ∷ []
ended (piece ∷ next ∷ pieces) = piece ∷ ended (next ∷ pieces)

abbrev pub lines_of : List ℕ → List (List ℕ)
lines_of text = ended (slice_split is_line_feed text)

abbrev pub tokens_of : List ℕ → List (List ℕ)
tokens_of bytes = filter (λ piece. not (is_empty piece)) (slice_split is_separator bytes)

abbrev pub is_number : List ℕ → Bool
is_number token = list_all is_ascii_digit token

-- the decimal value of digits, however many
abbrev pub value_of : List ℕ → ℕ
value_of token = fold (λ n digit. 10 * n + (digit - 48)) 0 token

pub data Line : Type 0 where
  Blank : Line
  Numbers : List ℕ → Line
  Words : List (List ℕ) → Line

abbrev pub line_of_tokens : List (List ℕ) → Line
line_of_tokens [] = Blank
line_of_tokens (t ∷ ts) =
    if list_all is_number (t ∷ ts) then Numbers (map value_of (t ∷ ts)) else Words (t ∷ ts)

abbrev pub line_of : List ℕ → Line
line_of bytes = line_of_tokens (tokens_of bytes)

abbrev pub Numbered : Type 0
Numbered = ℕ × Line

abbrev pub is_left : Numbered → Bool
is_left (n, Blank) = false
is_left (n, Numbers row) = true
is_left (n, Words words) = true

abbrev pub numbered_lines : List ℕ → List Numbered
numbered_lines text = filter is_left (enumerate_from 1 (map line_of (lines_of text)))
