use Rattle.shop_layout.specs.inner.Layings.{AreAdded}
use Rattle.shop_layout.proofs.positions.add_blocks.Given as goal

abbrev pub invariant-loop-index : goal.invariant-loop-index
invariant-loop-index l = AreAdded l.list l.count l.index l.fn.slots.items l.slots.items
