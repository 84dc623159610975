use Rattle.std.proofs.Common.{map}
use Rattle.shop_layout.specs.inner.Layings.{AreCells}
use Rattle.shop_layout.proofs.positions.cells_of.Given as goal

abbrev pub invariant-loop-m : goal.invariant-loop-m
invariant-loop-m l = AreCells (map (λ v. v.items) l.lists) l.m l.slots.items l.blocks.items
