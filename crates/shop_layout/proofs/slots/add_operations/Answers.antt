use Rattle.std.proofs.{Common.arith, lemmas.List.{length-map, length-set}}
use Rattle.shop_layout.proofs.{RankedSlots.added_by_rank, SlotLists.{items_written, items_read}}
use Rattle.shop_bound.proofs.TimeSums.{times_from}
use Rattle.shop_layout.proofs.slots.add_operations.Goals as goal

pub loop-k-preserved : goal.loop-k-preserved
loop-k-preserved c = grind (arith, times_from, items_written, added_by_rank, length-map, items_read, length-set)
