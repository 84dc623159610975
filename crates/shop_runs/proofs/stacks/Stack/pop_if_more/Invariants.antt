use Rattle.std.proofs.Common.{◌≡◌}
use Rattle.shop_runs.specs.inner.Stacks.{words_on}
use Rattle.shop_runs.proofs.stacks.Stack.pop_if_more.Given as goal

abbrev pub invariant-loop-self : goal.invariant-loop-self
invariant-loop-self l = words_on l.self ≡ words_on l.fn.self

abbrev pub decreases-loop-self : goal.decreases-loop-self
decreases-loop-self l = l.self.covered.len
