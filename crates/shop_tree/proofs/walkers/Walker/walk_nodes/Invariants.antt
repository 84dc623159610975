use Rattle.std.proofs.Common.{◌-◌, length}
use Rattle.shop_tree.specs.{inner.StateWalkers.{stage_of, HasStates}, inner.Walkers.HasWalkedUpTo}
use Rattle.shop_tree.proofs.walkers.Walker.walk_nodes.Given as goal

abbrev pub invariant-loop-taken : goal.invariant-loop-taken
invariant-loop-taken g l = record {
  walked : HasWalkedUpTo (stage_of l.fn.self) (stage_of l.self) l.nodes l.taken;
  states : HasStates l.self;
}

abbrev pub decreases-loop-taken : goal.decreases-loop-taken
decreases-loop-taken g l = length l.nodes - l.taken
