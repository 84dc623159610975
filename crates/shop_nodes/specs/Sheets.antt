-- Of which search a sheet is, and what it keeps.
--     IsSheetOf sheet shop piece best budget     the sheet was made of these
--     walk_of sheet                              the sheet as what a walk carries
--     KeepsTables shop piece best sheet          the search of the piece lost no table
use Rattle.std.specs.Prelude.{◌≡◌, ℕ, ◌-◌}
use Rattle.shop_model.specs.Shop.{Shop}
use Rattle.shop_nodes.specs.{Nodes.words_of, Walking.Walk, Laws.KeepsPiece, declared.pieces.Piece.Piece}
use Rattle.shop_nodes.specs.declared.sheets.Sheet.{Sheet}

pub record IsSheetOf (s : Sheet) (shop : Shop) (piece : Piece) (best budget : ℕ) : Type 0 where
  pub of_instance : s.instance.now ≡ shop
  pub of_piece : s.piece.now ≡ piece
  pub of_best : s.best ≡ best
  pub of_budget : s.budget ≡ budget

abbrev pub walk_of : Sheet → Walk
walk_of s = record { found = s.found; best = s.makespan; left = s.left.words; budget = s.budget - s.taken }

abbrev pub KeepsTables : Shop → Piece → ℕ → Sheet → Type 0
KeepsTables shop piece best s = KeepsPiece shop (words_of piece.nodes.items) best (walk_of s)
