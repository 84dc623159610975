use Rattle.shop_tree.{specs.inner.{StateWalkers.stage_of, Walkers.turns_left}, proofs.PopLemmas.HasCome}
use Rattle.shop_tree.proofs.walkers.Walker.reach_next.Given as goal

abbrev pub invariant-loop-self : goal.invariant-loop-self
invariant-loop-self g l = HasCome l.fn.self l.self

abbrev pub decreases-loop-self : goal.decreases-loop-self
decreases-loop-self g l = turns_left (stage_of l.self)
