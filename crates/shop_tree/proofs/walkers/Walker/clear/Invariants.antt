use Rattle.std.proofs.Common.{◌≡◌, length}
use Rattle.shop_tree.specs.inner.StateWalkers.{HasStates}
use Rattle.shop_tree.proofs.walkers.Walker.clear.Given as goal

abbrev pub invariant-loop-held : goal.invariant-loop-held
invariant-loop-held g l = record {
  states : HasStates l.self;
  instance : l.self.instance.now ≡ l.fn.self.instance.now;
}

abbrev pub decreases-loop-held : goal.decreases-loop-held
decreases-loop-held g l = length l.self.stack.items
