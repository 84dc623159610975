use Rattle.std.specs.BinaryHeap.{heap_len}
use Rattle.shop_bound.specs.inner.Queues.{IsQueue, KeepsRoom}
use Rattle.shop_bound.proofs.queues.Queue.release.Given as goal

abbrev pub invariant-loop-index : goal.invariant-loop-index
invariant-loop-index l = record { queue : IsQueue l.works l.clock l.self; room : KeepsRoom l.fn.self l.self }

abbrev pub decreases-loop-index : goal.decreases-loop-index
decreases-loop-index l = heap_len l.self.coming
