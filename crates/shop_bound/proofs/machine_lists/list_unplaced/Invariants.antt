use Rattle.shop_bound.proofs.MachineListTurns.{AreClearedTo, HaveListed}
use Rattle.shop_bound.proofs.machine_lists.list_unplaced.Given as goal

abbrev pub invariant-loop-m : goal.invariant-loop-m
invariant-loop-m l = AreClearedTo l.m l.fn.lists l.lists

abbrev pub invariant-loop-j : goal.invariant-loop-j
invariant-loop-j l = HaveListed l.instance l.placement l.j l.lists
