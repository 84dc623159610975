-- What the tests of a board carry from call to call.
--     HasHandledOf b seat n  the seat is of board b, has won n pieces, and has handled them
use Rattle.std.specs.Prelude.{◌≡◌, ℕ, length}
use Rattle.shop_workers.specs.Views.{HasHandled}
use Rattle.shop_workers.specs.Seats.{knows, IsSeatOf}
use Rattle.shop_workers.specs.declared.boards.Board.{Board}
use Rattle.shop_workers.specs.declared.boards.Seat.{Seat}

abbrev pub HasHandledOf : Board → Seat → ℕ → Type 0
HasHandledOf b s n = IsSeatOf b s × HasHandled (knows s) × (length (knows s).mine ≡ n)
