use Rattle.shop_workers.specs.{Seats.{knows, IsSeatOf}, inner.Turns.IsRestKnown}
use Rattle.shop_workers.proofs.seat_lending.claim_rest.Given as goal

abbrev pub invariant-loop-number : goal.invariant-loop-number
invariant-loop-number l = IsSeatOf l.board l.seat × IsRestKnown l.number (knows l.seat) l.by_piece
