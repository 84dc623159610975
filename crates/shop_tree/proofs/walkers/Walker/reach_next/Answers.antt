use Rattle.std.proofs.Common.{subst}
use Rattle.shop_tree.{specs.inner.Walkers.IsInOrder, proofs.PopLemmas.{as_before, comes_on, fewer_turns, states_below}}
use Rattle.shop_tree.proofs.walkers.Walker.reach_next.Goals as goal

pub reach-requires-clause-on : goal.reach-requires-clause-on
reach-requires-clause-on g c = subst IsInOrder (as_before c.loop-self.self c.pop.new.self.items
    c.in-Some.held c.in-Some.ensures.items c.in-Child.is) c.loop-self.invariant.in_order

pub reach-requires-clause-states : goal.reach-requires-clause-states
reach-requires-clause-states g c = states_below
    c.loop-self.self c.pop.new.self.items c.in-Some.held c.in-Some.ensures.items c.loop-self.invariant.states

pub count_closed-requires-clause-on : goal.count_closed-requires-clause-on
count_closed-requires-clause-on g c = subst IsInOrder (as_before c.loop-self.self c.pop.new.self.items
    c.in-Some.held c.in-Some.ensures.items c.in-Rest.is) c.loop-self.invariant.in_order

pub count_closed-requires-clause-states : goal.count_closed-requires-clause-states
count_closed-requires-clause-states g c = states_below
    c.loop-self.self c.pop.new.self.items c.in-Some.held c.in-Some.ensures.items c.loop-self.invariant.states

pub loop-self-preserved-in_default-2 : goal.loop-self-preserved-in_default-2
loop-self-preserved-in_default-2 g c = let cut = rw c.in_default-2.is at c.in_ok-bound-in-Child.ensures
    in comes_on c.loop-self.self c.pop.new.self.items c.in-Some.held c.in-Some.ensures.items c.in-Child.is
    c.reach.new.self c.loop-self.invariant cut.0 cut.1

pub loop-self-smaller-in_default-2 : goal.loop-self-smaller-in_default-2
loop-self-smaller-in_default-2 g c = fewer_turns c.loop-self.self c.pop.new.self.items
    c.in-Some.held c.in-Some.ensures.items c.in-Child.is
    (rw c.in_default-2.is at c.in_ok-bound-in-Child.ensures).0

pub loop-self-preserved-in_ok-count_closed-in-Rest : goal.loop-self-preserved-in_ok-count_closed-in-Rest
loop-self-preserved-in_ok-count_closed-in-Rest g c = let ok = c.in_ok-count_closed-in-Rest.ensures
    in comes_on c.loop-self.self c.pop.new.self.items c.in-Some.held c.in-Some.ensures.items c.in-Rest.is
    c.count_closed.new.self c.loop-self.invariant ok.turn ok.states

pub loop-self-smaller-in_ok-count_closed-in-Rest : goal.loop-self-smaller-in_ok-count_closed-in-Rest
loop-self-smaller-in_ok-count_closed-in-Rest g c = fewer_turns c.loop-self.self c.pop.new.self.items
    c.in-Some.held c.in-Some.ensures.items c.in-Rest.is c.in_ok-count_closed-in-Rest.ensures.turn

pub loop-self-preserved : goal.loop-self-preserved
loop-self-preserved g c = let ok = c.in_ok-count_closed-in-Rest.ensures
    in comes_on c.loop-self.self c.pop.new.self.items c.in-Some.held c.in-Some.ensures.items c.in-Rest.is
    c.count_closed.new.self c.loop-self.invariant ok.turn ok.states

pub loop-self-smaller : goal.loop-self-smaller
loop-self-smaller g c = fewer_turns c.loop-self.self c.pop.new.self.items
    c.in-Some.held c.in-Some.ensures.items c.in-Rest.is c.in_ok-count_closed-in-Rest.ensures.turn
