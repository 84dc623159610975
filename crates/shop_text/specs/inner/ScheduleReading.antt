-- What the parts of the reader of schedule texts tell.
use Rattle.std.specs.Prelude.{◌≡◌, ℕ, ◌+◌, ◌≤◌, false, List, ◌∷◌, ◌++◌, length, map, filter, codes, Option, Some}
use Rattle.std.specs.{Prelude.{None, Result, Ok, Err, Vec}, Borrow.Bor, List.enumerate_from, Option.option_map}
use Rattle.std.specs.declared.alloc.Global.{Global}
use Rattle.shop_model.specs.Shop.{Shop}
use Rattle.shop_text.specs.{Lines.{lines_of, tokens_of}, Schedules.{Tokens, begins_with_job}}
use Rattle.shop_text.specs.Schedules.{is_counted, counted_lines, AreJobLines, IsTable, IsTableRead}
use Rattle.shop_text.specs.{inner.LineReading.IsBehind, declared.faults.ReadFault.ReadFault}

-- the rows that a vector holds
abbrev pub rows_held : Vec (Vec ℕ Global) Global → List (List ℕ)
rows_held rows = map (λ row. row.items) rows.items

-- the row that was read, if there is one
abbrev pub row_read : Option (Vec ℕ Global) → Option (List ℕ)
row_read row = option_map (λ v. v.items) row

-- what follows the token `job`, if the line begins with it
abbrev pub FollowsJob : Tokens → Option (Bor (List ℕ)) → Type 0
FollowsJob tokens None = begins_with_job tokens ≡ false
FollowsJob tokens (Some rest) = tokens ≡ codes "job" ∷ tokens_of rest.now

abbrev pub AreRowsRead : Shop → List ℕ → Result (Vec (Vec ℕ Global) Global) ReadFault → Type 0
AreRowsRead shop text (Ok rows) = IsTable shop text (rows_held rows)
AreRowsRead shop text (Err fault) = IsTableRead shop text (Err fault)

-- the counted lines in what is left of a text, after some lines
abbrev pub counted_after : ℕ → List ℕ → List (ℕ × Tokens)
counted_after passed text = filter is_counted (enumerate_from (passed + 1) (map tokens_of (lines_of text)))

-- After some lines of the text the rows read are those of the counted lines so far, and the rest is to be read.
pub record IsReadSoFar (shop : Shop) (text : List ℕ) (passed : ℕ) (rest : List ℕ) (rows : List (List ℕ)) : Type 0 where
  pub before : List (ℕ × Tokens)
  pub cut : counted_lines text ≡ before ++ counted_after passed rest
  pub good : AreJobLines shop before rows
  pub jobs : length rows ≤ length shop.jobs
  pub behind : IsBehind text passed rest
