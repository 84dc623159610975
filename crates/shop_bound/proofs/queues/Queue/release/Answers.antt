use Rattle.std.{proofs.Common.{◌≡◌, arith, refl}, specs.BinaryHeap.heap_capacity}
use Rattle.shop_bound.proofs.QueueTurns.{queue_more, taken_here}
use Rattle.shop_bound.proofs.queues.Queue.release.Goals as goal

pub offset_bounds-works-index : goal.offset_bounds-works-index
offset_bounds-works-index c =
    grind (arith, taken_here _ _ _ _ _ c.in-Some.index c.loop-index.invariant.queue.are c.in-Some.ensures.taken)

pub bounds-works-index : goal.bounds-works-index
bounds-works-index c =
    taken_here _ _ _ _ _ c.in-Some.index c.loop-index.invariant.queue.are c.in-Some.ensures.taken

pub loop-index-preserved : goal.loop-index-preserved
loop-index-preserved c =
    let v = c.loop-index.invariant in let t = c.in-Some.ensures in let p = c.push.ensures
    in let coming = v.room.coming in let released = v.room.released
    in let same : heap_capacity c.pop_released.new.self.released ≡ heap_capacity c.loop-index.self.released =
    rw t.released refl
    in record {
      queue = queue_more c.args.works.now c.args.clock c.in-Some.index c.loop-index.self
          c.pop_released.new.self _ v.queue
          t.taken t.fewer t.released refl _ (rw c.unwrap.ensures at p.permutation) refl refl
          (rw c.unwrap.ensures at p.len) p.capacity;
      room = record { coming = omega arith; released = omega arith };
    }
