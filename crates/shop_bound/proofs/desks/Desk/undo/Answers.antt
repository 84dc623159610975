use Rattle.std.proofs.Common.{refl}
use Rattle.shop_bound.proofs.DeskTurns.{taken}
use Rattle.shop_bound.proofs.desks.Desk.undo.Goals as goal

pub invariant_of-self : goal.invariant_of-self
invariant_of-self c =
    taken c.self.inside c.self.invariant _ refl c.unwrap-job.result (rw c.unwrap-job.ensures at c.pop.ensures.items)
    c.unwrap-replaced.result (rw c.unwrap-replaced.ensures at c.pop-2.ensures.items) c.take_back.ensures
    c.pop.ensures.capacity c.pop-2.ensures.capacity refl
