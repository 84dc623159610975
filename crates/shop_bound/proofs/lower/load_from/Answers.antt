use Rattle.std.proofs.{Common.{◌≡◌, ◌+◌, max, List, get_or, take, sym, subst, arith, rules}, lemmas.List.take_more}
use Rattle.std.proofs.lemmas.{Grind.common_steps, List.Sums.sum_by_more_le}
use Rattle.shop_bound.specs.{declared.triples.Triple.Triple, inner.Thresholds.no_triple}
use Rattle.shop_bound.proofs.{LeapTurns.{IsLoadOf, earlier, later}, Lists.get_or-le-greatest_of}
use Rattle.shop_bound.proofs.lower.load_from.Goals as goal
use Rattle.shop_bound.proofs.lower.load_from.Goals.{then-from-t, else-from-t}

pub overflow_add-time-then-from-t : goal.overflow_add-time-then-from-t
overflow_add-time-then-from-t c = grind (arith, sum_by_more_le, get_or-le-greatest_of)

pub loop-t-preserved : goal.loop-t-preserved
loop-t-preserved c =
    let ts = c.args.triples.now in let k = c.loop-t.t-index
    in let x = get_or ts k no_triple
    in let us = take k ts
    in let is = c.loop-t.invariant
    in subst (λ (ys : List Triple). IsLoadOf ys c.args.from c.if-from-t.time c.if-from-t.load)
    (sym (take_more ts k no_triple c.loop-t-test.true))
    (elim c.if-from-t.branch [
      | then-from-t w ↦ (let more : w.max-load.result ≡ max c.loop-t.load
          (c.loop-t.time + x.time + x.tail) = search rules
          in rw (w.time-is, w.load-is) (later us x c.args.from c.loop-t.time c.loop-t.load w.max-load.result is more))
      | else-from-t w ↦ rw (w.time-is, w.load-is)
          (earlier us x c.args.from c.loop-t.time c.loop-t.load is (let a = w.if-from-t.false in omega arith))
    ])

pub overflow_add-time : goal.overflow_add-time
overflow_add-time c = grind (arith, common_steps)
