use Rattle.std.{proofs.Common.{arith, map, subst, sym, List}, specs.BinaryHeap.heap_items}
use Rattle.shop_bound.specs.{inner.Serving.fresh, inner.HeapOrders.Released, inner.Queues.AreQueued}
use Rattle.shop_bound.proofs.QueueTurns.{listed_more, queued_all}
use Rattle.shop_bound.proofs.queues.Queue.fill.Goals as goal

pub loop-i-preserved : goal.loop-i-preserved
loop-i-preserved c = grind (arith, listed_more)

pub returns-clause-queue : goal.returns-clause-queue
returns-clause-queue c =
    let v = c.loop-i.invariant in let r = c.requires
    in record {
      are = subst (λ (hs : List Released).
          AreQueued (map fresh c.args.triples.now) 0 (heap_items c.loop-i.self.coming) hs)
          (sym v.released)
          (queued_all c.args.triples.now c.loop-i.i (heap_items c.loop-i.self.coming) (omega arith) v.listed);
      room = omega arith;
    }
