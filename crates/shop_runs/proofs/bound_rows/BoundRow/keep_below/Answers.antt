use Rattle.std.proofs.Common.{arith}
use Rattle.shop_runs.proofs.BoundRowLemmas.{lower_empty, cut_empty, kept_is}
use Rattle.shop_runs.proofs.bound_rows.BoundRow.keep_below.Goals as goal

pub invariant_of-self : goal.invariant_of-self
invariant_of-self c = grind (arith, cut_empty, lower_empty)

pub returns : goal.returns
returns c = grind (arith, kept_is)
