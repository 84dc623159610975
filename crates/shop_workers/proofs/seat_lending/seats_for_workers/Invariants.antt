use Rattle.std.specs.Prelude.{All}
use Rattle.shop_workers.specs.{Seats.IsSeatOf, declared.seat_lending.Lent.Lent}
use Rattle.shop_workers.proofs.seat_lending.seats_for_workers.Given as goal

abbrev pub invariant-loop-worker : goal.invariant-loop-worker
invariant-loop-worker l = IsSeatOf l.board l.mine × All (λ (x : Lent). IsSeatOf l.board x.seat) l.lent.items
