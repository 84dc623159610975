use Rattle.std.proofs.Common.{map}
use Rattle.shop_layout.specs.inner.Layings.{AreNoted}
use Rattle.shop_layout.proofs.positions.note_positions.Given as goal

abbrev pub invariant-loop-rank : goal.invariant-loop-rank
invariant-loop-rank l =
    AreNoted l.rank l.first l.count l.slots (map (λ v. v.items) l.fn.step_positions)
    (map (λ v. v.items) l.step_positions)
