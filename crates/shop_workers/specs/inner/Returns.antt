-- What the workers of a board bring back.
--     IsReturned b r s es    what a worker brings back: its seat of this board, and entries of this
--                            round unless it was refused memory
--     AreReturned b r all    IsReturned of each worker
use Rattle.std.specs.Prelude.{List, All, IfOk}
use Rattle.shop_runs.specs.Round.{Told}
use Rattle.shop_workers.specs.{Entries.{OfRound, Brought}, Seats.IsSeatOf, declared.boards.Board.Board}
use Rattle.shop_workers.specs.{declared.boards.Seat.Seat, declared.seat_lending.Returned.Returned}

abbrev pub IsReturned : Board → Told → Seat → Brought → Type 0
IsReturned b r s entries = IsSeatOf b s × IfOk entries (λ v. OfRound r v.items)

abbrev pub AreReturned : Board → Told → List Returned → Type 0
AreReturned b r all = All (λ (x : Returned). IsReturned b r x.seat x.entries) all
