use Rattle.shop_tree.specs.{inner.StateWalkers.{stage_of, StandsAt}, inner.Walkers.HasFollowed}
use Rattle.shop_tree.proofs.walkers.Walker.expand.Given as goal

abbrev pub invariant-loop-self : goal.invariant-loop-self
invariant-loop-self g l = record {
  followed : HasFollowed (stage_of l.fn.self) (stage_of l.self);
  at : StandsAt l.self l.bound;
}

abbrev pub decreases-loop-self : goal.decreases-loop-self
decreases-loop-self g l = l.self.budget
