use Rattle.std.{proofs.Common.{◌≡◌, length, vec_len}, specs.Prelude.{All, IfSome, IsOk}}
use Rattle.shop_runs.specs.Entries.{told}
use Rattle.shop_workers.specs.{inner.{Gathered.{HasFilled, AreByPiece}, Returns.IsReturned}, Seats.IsSeatOf}
use Rattle.shop_workers.{specs.declared.seat_lending.Returned.Returned, proofs.TakenLists.AreThrough}
use Rattle.shop_workers.proofs.seat_lending.join_all.Given as goal

abbrev pub invariant-loop-seat : goal.invariant-loop-seat
invariant-loop-seat l =
    IfSome l.joined (IsSeatOf l.board) × (vec_len l.by_piece ≡ length l.round.pieces.items)
    × AreByPiece (told l.round) l.by_piece.items
    × All (λ (b : Returned). IsReturned l.board (told l.round) b.seat b.entries) l.returned.items
    × AreThrough (λ (b : Returned). IsOk b.entries) l.initial.returned.items l.returned.items
    × AreThrough (λ (b : Returned). HasFilled l.by_piece.items b.entries) l.initial.returned.items l.returned.items

abbrev pub decreases-loop-seat : goal.decreases-loop-seat
decreases-loop-seat l = vec_len l.returned
