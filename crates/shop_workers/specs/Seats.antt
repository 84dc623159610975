-- What a contract sees of a board and of a seat.
--     knows seat            what the seat knows
--     hits_of board         which pieces of its round end at the opening bound
--     IsSeatOf board seat   the seat is of this board
use Rattle.std.specs.Prelude.{◌≡◌, List, Bool}
use Rattle.shop_workers.specs.{declared.views.View.View, declared.boards.Board.Board, declared.boards.Seat.Seat}

abbrev pub knows : Seat → View
knows s = s.seat.me.0

abbrev pub hits_of : Board → List Bool
hits_of b = b.table.shared.key

abbrev pub IsSeatOf : Board → Seat → Type 0
IsSeatOf b s = (s.seat.table_id ≡ b.table.shared.table_id) × ((knows s).hits ≡ hits_of b)
