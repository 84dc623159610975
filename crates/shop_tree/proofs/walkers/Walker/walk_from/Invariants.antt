use Rattle.std.proofs.Common.{◌≡◌, ◌≤◌}
use Rattle.shop_tree.specs.inner.{StateWalkers.{stage_of, StandsAt}, Walkers.{turns_left, walk_on}}
use Rattle.shop_tree.proofs.walkers.Walker.walk_from.Given as goal

abbrev pub invariant-loop-self : goal.invariant-loop-self
invariant-loop-self g l = record {
  walk : walk_on (stage_of l.self) ≡ walk_on (stage_of l.fn.self);
  spent : l.self.budget ≤ l.fn.self.budget;
  shop : l.self.instance.now ≡ l.fn.self.instance.now;
  at : StandsAt l.self l.bound;
}

abbrev pub decreases-loop-self : goal.decreases-loop-self
decreases-loop-self g l = turns_left (stage_of l.self)
