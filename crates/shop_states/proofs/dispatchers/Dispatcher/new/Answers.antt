use Rattle.std.proofs.Common.{arith}
use Rattle.shop_states.proofs.dispatchers.Dispatcher.new.Goals as goal

pub new-requires-2-clause-few : goal.new-requires-2-clause-few
new-requires-2-clause-few g c = λ fixed. let few = c.grid-grid.ensures.few fixed in grind arith

pub invariant_of-result : goal.invariant_of-result
invariant_of-result g c = grind arith
