use Rattle.std.proofs.{Common.{◌≡◌, ◌∙◌, ℕ, List, max, get_or, take, ap, sym, arith, rules}, lemmas.List.take_all}
use Rattle.shop_bound.specs.{declared.triples.Triple.Triple, OneMachine.greatest_of}
use Rattle.shop_bound.specs.inner.Thresholds.{no_triple, span_above}
use Rattle.shop_bound.proofs.{Lists.get_or-le-greatest_of, ThresholdLemmas.{greatest_of-more, thresholds}}
use Rattle.shop_bound.proofs.triples.one_machine.Goals as goal

pub span_of_above-requires : goal.span_of_above-requires
span_of_above-requires c = grind (arith, get_or-le-greatest_of)

pub loop-last-preserved : goal.loop-last-preserved
loop-last-preserved c =
    let ts = c.args.triples.now
    in let first = get_or ts c.loop-first.first-index no_triple
    in let last = get_or ts c.loop-last.last-index no_triple
    in let here = span_above ts first.head last.tail
    in let more = greatest_of-more (λ (t : Triple). span_above ts first.head t.tail) ts c.loop-last.last-index no_triple
    c.loop-last-test.true
    in let most : c.max-most.result ≡ max c.loop-last.most here = search rules
    in most ∙ (ap (λ (n : ℕ). max n here) c.loop-last.invariant ∙ sym more)

pub loop-first-preserved : goal.loop-first-preserved
loop-first-preserved c =
    let ts = c.args.triples.now
    in let first = get_or ts c.loop-first.first-index no_triple
    in let most_of : Triple → ℕ = λ (s : Triple). greatest_of (λ (t : Triple). span_above ts s.head t.tail) ts
    in let more = greatest_of-more most_of ts c.loop-first.first-index no_triple c.loop-first-test.true
    in let all = take_all c.loop-last.last-index ts (omega (arith, c.loop-last-test.false))
    in let row : c.loop-last.most ≡ most_of first = c.loop-last.invariant
    ∙ ap (λ (us : List Triple). greatest_of (λ (t : Triple). span_above ts first.head t.tail) us) all
    in let best : c.max-best.result ≡ max c.loop-first.best c.loop-last.most = search rules
    in best ∙ (ap (λ (n : ℕ). max n c.loop-last.most) c.loop-first.invariant
    ∙ (ap (λ (n : ℕ). max (greatest_of most_of (take c.loop-first.first-index ts)) n) row ∙ sym more))

pub returns : goal.returns
returns c =
    let ts = c.args.triples.now
    in let most_of : Triple → ℕ = λ (s : Triple). greatest_of (λ (t : Triple). span_above ts s.head t.tail) ts
    in let all = take_all c.loop-first.first-index ts (omega (arith, c.loop-first-test.false))
    in c.loop-first.invariant ∙ (ap (greatest_of most_of) all ∙ thresholds ts)
