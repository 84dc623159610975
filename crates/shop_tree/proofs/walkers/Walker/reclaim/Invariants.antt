use Rattle.std.proofs.Common.{◌-◌, length}
use Rattle.shop_tree.specs.inner.StateWalkers.{StandsAs}
use Rattle.shop_tree.proofs.walkers.Walker.reclaim.Given as goal

abbrev pub invariant-loop-self : goal.invariant-loop-self
invariant-loop-self g l = StandsAs l.fn.self l.self

abbrev pub decreases-loop-self : goal.decreases-loop-self
decreases-loop-self g l = length l.self.stack.items - l.self.stripped
