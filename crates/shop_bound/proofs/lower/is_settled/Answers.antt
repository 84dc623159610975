use Rattle.std.proofs.Common.{rules, arith}
use Rattle.shop_bound.proofs.LeapTurns.{all_settled}
use Rattle.shop_bound.proofs.lower.is_settled.Goals as goal

pub returns-then-greatest-load : goal.returns-then-greatest-load
returns-then-greatest-load c = λ _.
    let greatest = c.greatest_head-greatest.ensures in let small = c.if-greatest-load.true
    in all_settled c.args.triples.now c.loop.from c.load_from-load.result c.args.bound c.loop.invariant.settled
    c.load_from-load.ensures.covers (omega arith)

pub loop-preserved : goal.loop-preserved
loop-preserved c = search rules
