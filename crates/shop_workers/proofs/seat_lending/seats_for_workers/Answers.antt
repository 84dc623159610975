use Rattle.std.proofs.lemmas.List.Elements.{All-push}
use Rattle.shop_workers.specs.{Seats.IsSeatOf, declared.seat_lending.Lent.Lent}
use Rattle.shop_workers.proofs.seat_lending.seats_for_workers.Goals as goal

pub loop-worker-preserved : goal.loop-worker-preserved
loop-worker-preserved c = (
  c.split-kept.ensures.first.0,
  rw c.in_ok-push.ensures.items (All-push (λ (l : Lent). IsSeatOf c.args.board.now l.seat) c.loop-worker.lent.items _
      c.loop-worker.invariant.1 c.split-kept.ensures.second.0),
)

pub returns : goal.returns
returns c = rw c.in_ok-push-2.ensures.items (All-push (λ (l : Lent). IsSeatOf c.args.board.now l.seat)
    c.loop-worker.lent.items _ c.loop-worker.invariant.1 c.loop-worker.invariant.0)
