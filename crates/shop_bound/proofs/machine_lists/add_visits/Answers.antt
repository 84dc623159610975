use Rattle.std.proofs.{Common.arith, lemmas.List.length-set}
use Rattle.shop_bound.proofs.MachineListTurns.{one_counted, visits_few}
use Rattle.shop_bound.proofs.machine_lists.add_visits.Goals as goal

pub overflow_add-counts : goal.overflow_add-counts
overflow_add-counts c = grind (arith, visits_few)

pub loop-op-preserved : goal.loop-op-preserved
loop-op-preserved c = grind (arith, length-set, one_counted)
