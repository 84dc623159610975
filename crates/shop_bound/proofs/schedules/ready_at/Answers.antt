use Rattle.std.proofs.Common.{sym}
use Rattle.shop_bound.proofs.QueueTurns.{first_none, ready_done, ready_later, ready_now}
use Rattle.shop_bound.proofs.schedules.ready_at.Goals as goal

pub returns-then-is_some-clause-ready : goal.returns-then-is_some-clause-ready
returns-then-is_some-clause-ready c =
    ready_now c.args.works.now c.args.clock _ _ c.release.ensures.queue.are c.release.ensures.later
    c.next_to_serve.result c.next_to_serve.ensures
    (sym c.if-is_some.ensures)

pub returns-in_default-clause-ready : goal.returns-in_default-clause-ready
returns-in_default-clause-ready c =
    ready_done c.args.works.now c.args.clock _ _ c.release.ensures.queue.are c.release.ensures.later
    (first_none _ c.next_to_serve.result c.next_to_serve.ensures (sym c.if-is_some.ensures)) c.in_default.ensures

pub returns-clause-ready : goal.returns-clause-ready
returns-clause-ready c =
    ready_later c.args.works.now c.args.clock _ _ c.release.ensures.queue.are c.release.ensures.later
    (first_none _ c.next_to_serve.result c.next_to_serve.ensures (sym c.if-is_some.ensures)) c.in-Some.release
    c.in-Some.ensures
