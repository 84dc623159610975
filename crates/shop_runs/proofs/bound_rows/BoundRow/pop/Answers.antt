use Rattle.std.proofs.Common.{rules, arith}
use Rattle.shop_runs.proofs.BoundRowLemmas.{none_left, now_empty, still_empty, take_at}
use Rattle.shop_runs.proofs.bound_rows.BoundRow.pop.Goals as goal

pub invariant_of-self : goal.invariant_of-self
invariant_of-self c = grind (arith, now_empty)

pub returns-then-self-len : goal.returns-then-self-len
returns-then-self-len c = grind (arith, none_left)

pub invariant_of-self-2 : goal.invariant_of-self-2
invariant_of-self-2 c = search (rules, now_empty, still_empty)

pub returns : goal.returns
returns c = grind (arith, now_empty, take_at)
