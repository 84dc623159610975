use Rattle.std.proofs.Common.{◌+◌, length, sym, ap, arith}
use Rattle.shop_runs.proofs.DistantLemmas.{none_below_0, count_next, count_most, count_end}
use Rattle.shop_runs.proofs.distant_nodes.DistantNodes.count.Goals as goal

pub loop-count-init : goal.loop-count-init
loop-count-init c = λ nodes have. sym (ap length (none_below_0 nodes))

pub overflow_add-all : goal.overflow_add-all
overflow_add-all c =
    let nodes = c.requires.0
    in let have = c.requires.1
    in let few = c.requires.2
    in let e = count_next c.args.self.now.counts.items nodes c.loop-count.count-index c.loop-count.all have
    (c.loop-count.invariant nodes have)
    in let m = count_most (c.loop-count.count-index + 1) nodes
    in grind arith

pub loop-count-preserved : goal.loop-count-preserved
loop-count-preserved c = λ nodes have.
    let e = count_next c.args.self.now.counts.items nodes c.loop-count.count-index c.loop-count.all have
    (c.loop-count.invariant nodes have)
    in grind arith

pub returns : goal.returns
returns c = λ nodes have.
    let e = c.loop-count.invariant nodes have
    in let f = count_end c.args.self.now.counts.items nodes have
    in grind arith
