-- The search of a piece.
--     Searches shop piece best budget sheet  the sheet is made of a search of the piece, with this makespan to beat and
--                                            this budget, which lost no table
use Rattle.std.specs.Prelude.{ℕ}
use Rattle.shop_model.specs.Shop.{Shop}
use Rattle.shop_nodes.specs.{Sheets.{IsSheetOf, KeepsTables}, declared.pieces.Piece.Piece, declared.sheets.Sheet.Sheet}

pub record Searches (shop : Shop) (piece : Piece) (best budget : ℕ) (s : Sheet) : Type 0 where
  pub of : IsSheetOf s shop piece best budget
  pub keeps : KeepsTables shop piece best s
