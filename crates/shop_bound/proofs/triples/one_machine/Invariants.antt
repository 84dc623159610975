use Rattle.std.proofs.Common.{◌≡◌, take}
use Rattle.shop_bound.specs.{OneMachine.greatest_of, inner.Thresholds.span_above}
use Rattle.shop_bound.proofs.triples.one_machine.Given as goal

abbrev pub invariant-loop-first : goal.invariant-loop-first
invariant-loop-first l =
    l.best ≡ greatest_of (λ first. greatest_of (λ last. span_above l.triples first.head last.tail) l.triples)
    (take l.first-index l.triples)

abbrev pub invariant-loop-last : goal.invariant-loop-last
invariant-loop-last l =
    l.most ≡ greatest_of (λ last. span_above l.triples l.first.head last.tail) (take l.last-index l.triples)
