use Rattle.std.proofs.Common.{arith}
use Rattle.shop_nodes.proofs.PlacedLemmas.{is_read, next_end-small}
use Rattle.shop_nodes.proofs.conflicts.Placed.next.Goals as goal

pub overflow_add-result : goal.overflow_add-result
overflow_add-result c = grind (arith, is_read, next_end-small)
