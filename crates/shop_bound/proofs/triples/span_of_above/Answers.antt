use Rattle.std.proofs.{Common.arith, lemmas.List.Sums.{sum_by_more_le, sum_by-take-le}}
use Rattle.shop_bound.proofs.triples.span_of_above.Goals as goal

pub overflow_add-sum : goal.overflow_add-sum
overflow_add-sum c = grind (arith, sum_by_more_le)

pub overflow_add-result : goal.overflow_add-result
overflow_add-result c = omega (arith, sum_by-take-le (λ t. t.time) c.args.triples.now c.loop-t.t-index)

pub overflow_add-result-else-count-eq0 : goal.overflow_add-result-else-count-eq0
overflow_add-result-else-count-eq0 c = omega (arith, sum_by-take-le (λ t. t.time) c.args.triples.now c.loop-t.t-index)
