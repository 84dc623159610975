-- The starts of a table that is read are within their limit.
use Rattle.std.proofs.{Common.{◌≡◌, ℕ, ◌+◌, ◌≤◌, true, List, [], ◌∷◌, get_or, map, Some, arith}, lemmas.Bool.and_parts}
use Rattle.std.{proofs.lemmas.Bool.leb-true, specs.List.{enumerate_from, list_all}}
use Rattle.shop_model.specs.{Shop.Shop, Limits.AreStarts}
use Rattle.shop_text.specs.{Lines.value_of, Schedules.{Tokens, is_start, starts_in, IsTable}}
use Rattle.shop_text.proofs.JobLineLemmas.{row_at}

abbrev AreWithin : List ℕ → Type 0
AreWithin starts = (k : ℕ) → get_or starts k 0 ≤ 1000000000000000

one_within : (start : ℕ) (starts : List ℕ) → start ≤ 1000000000000000 → AreWithin starts → AreWithin (start ∷ starts)
one_within start starts h all x = grind arith

starts_within : (tokens : Tokens) → list_all is_start tokens ≡ true → AreWithin (map value_of tokens)
starts_within [] e = λ k. omega arith
starts_within (token ∷ tokens) e = grind (arith, and_parts, one_within, leb-true, starts_within tokens)

line_within : (j steps : ℕ) (tokens : Tokens) (row : List ℕ) → starts_in j steps tokens ≡ Some row → AreWithin row
line_within j steps x row e = grind (arith, starts_within, and_parts)

one_row : (row : List ℕ) (rows : List (List ℕ)) → AreWithin row → AreStarts rows → AreStarts (row ∷ rows)
one_row row rows h all x = grind arith

rows_within : (shop : Shop) (first : ℕ) (lines : List (ℕ × Tokens)) (rows : List (List ℕ))
    → map (row_at shop) (enumerate_from first lines) ≡ map Some rows → AreStarts rows
rows_within shop first lines [] e = λ j k. omega arith
rows_within shop first [] (row ∷ rows) e = absurd cc
rows_within shop first (line ∷ lines) (row ∷ rows) e =
    grind (arith, row_at, one_row, line_within, rows_within shop (first + 1) lines rows)

pub table_within : (shop : Shop) (text : List ℕ) (rows : List (List ℕ)) → IsTable shop text rows → AreStarts rows
table_within shop text rows table = rows_within shop 0 _ rows table.lines
