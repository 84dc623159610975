use Rattle.shop_workers.specs.Seats.{IsSeatOf}
use Rattle.crew_tests.proofs.boards.claim_all.Given as goal

abbrev pub invariant-loop-number : goal.invariant-loop-number
invariant-loop-number l = IsSeatOf l.board l.seat
