use Rattle.std.proofs.Common.{arith, rules}
use Rattle.shop_bound.proofs.LeapTurns.{small_in_order, one_in_order}
use Rattle.shop_bound.proofs.lower.raise.Goals as goal
use Rattle.shop_bound.proofs.lower.raise.Goals.{then-total-bound+else-is_settled, else-total-bound}

pub is_settled-requires : goal.is_settled-requires
is_settled-requires c = search (rules, small_in_order)

pub returns-then-is_settled-clause-bound : goal.returns-then-is_settled-clause-bound
returns-then-is_settled-clause-bound c = grind (arith, one_in_order)

pub bound-requires-clause-small : goal.bound-requires-clause-small
bound-requires-clause-small c = elim c.if-total-bound.branch [
  | then-total-bound+else-is_settled w ↦ rw w.triples-is
      (small_in_order _ _ w.sort_unstable_by_key.ensures.permutation c.requires.small)
  | else-total-bound w ↦ rw w.triples-is c.requires.small
]

pub returns-clause-bound : goal.returns-clause-bound
returns-clause-bound c = elim c.if-total-bound.branch [
  | then-total-bound+else-is_settled w ↦ (let same = one_in_order _ _ w.sort_unstable_by_key.ensures.permutation
      in let bound = rw w.triples-is at c.bound.ensures.bound in omega arith)
  | else-total-bound w ↦ (let bound = rw w.triples-is at c.bound.ensures.bound in omega arith)
]
