use Rattle.std.proofs.Common.{List, Some, length, ap, arith}
use Rattle.shop_model.specs.declared.ops.Op.{Op}
use Rattle.shop_bound.{specs.Heads.head_if_left, proofs.{Filled.filled_more, HeadTurns.{ends_of_word, ready_first}}}
use Rattle.shop_bound.proofs.HeadTurns.{placed_turn, left_turn, left_small}
use Rattle.shop_bound.proofs.heads_and_tails.heads_of_job.Goals as goal

pub loop-k-init : goal.loop-k-init
loop-k-init c =
    let shop = c.args.instance.now in let j = c.args.j in let s = c.args.placement.now
    in let small = (ends_of_word shop c.route-route.ensures.limits s c.requires.word).ready j c.requires.job
    in grind (arith, ready_first)

pub loop-k-preserved-then-k-placed : goal.loop-k-preserved-then-k-placed
loop-k-preserved-then-k-placed c = grind (arith, placed_turn, filled_more)

pub overflow_add-ready : goal.overflow_add-ready
overflow_add-ready c =
    let shop = c.args.instance.now in let j = c.args.j in let s = c.args.placement.now
    in let limits = c.route-route.ensures.limits
    in let small = left_small shop limits s (ends_of_word shop limits s c.requires.word) j c.route-route.result.now
    c.route-route.ensures.route
    c.loop-k.k c.loop-k.ready c.free.result c.max-head.result c.free.ensures c.max-head.ensures
    c.loop-k.invariant.small
    in let long = ap (λ (xs : List Op). length xs) c.route-route.ensures.route
    in let few = limits.routes j in let below = c.loop-k-test.true in omega arith

pub loop-k-preserved : goal.loop-k-preserved
loop-k-preserved c =
    let shop = c.args.instance.now in let j = c.args.j in let s = c.args.placement.now
    in let turn = left_turn shop s j c.requires.job c.steps-placed.result c.steps-placed.ensures c.loop-k.k
    c.loop-k.ready c.loop-k.invariant.ready
    c.if-k-placed.false c.route-route.ensures.limits c.route-route.result.now c.route-route.ensures.route
    c.loop-k-test.true
    c.free.result c.max-head.result c.free.ensures c.max-head.ensures
    in let pushed = rw c.unwrap-in-loop-k.ensures at c.push-in-loop-k.ensures
    in record {
      filled = λ p is. filled_more (head_if_left shop p j) c.loop-k.heads.items c.push-in-loop-k.new.self.items
          c.loop-k.k (Some c.max-head.result) (c.loop-k.invariant.filled p is) (turn p is).0 pushed.items;
      ready = λ p is. (turn p is).1;
      small = left_small shop c.route-route.ensures.limits s (ends_of_word shop c.route-route.ensures.limits s
          c.requires.word) j c.route-route.result.now c.route-route.ensures.route c.loop-k.k c.loop-k.ready
          c.free.result c.max-head.result c.free.ensures c.max-head.ensures c.loop-k.invariant.small;
      long = omega (arith, c.loop-k.invariant.long, pushed.len);
      room = omega (arith, c.loop-k.invariant.room, pushed.capacity);
    }
