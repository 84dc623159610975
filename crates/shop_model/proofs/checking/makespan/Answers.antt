use Rattle.std.proofs.Common.{length, rules}
use Rattle.shop_model.specs.{Shop.{greatest_below, route_of, finish_of}, Checking.starts_of}
use Rattle.shop_model.proofs.Greatest.{greatest_below-next}
use Rattle.shop_model.proofs.checking.makespan.Goals as goal

pub loop-j-preserved : goal.loop-j-preserved
loop-j-preserved c =
    greatest_below-next (λ j. greatest_below (length (route_of c.args.instance.now j))
    (λ k. finish_of c.args.instance.now (starts_of c.args.table.now) j k)) c.loop-j.j _ _ _
    c.loop-j.invariant (rw (c.route.ensures.route, c.row.ensures.row) at c.last_finish.ensures.end) (search rules)
