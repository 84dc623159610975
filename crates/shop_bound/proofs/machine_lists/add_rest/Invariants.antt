use Rattle.std.{proofs.Common.{◌≡◌, ◌+◌, ◌*◌, ◌≤◌, drop}, specs.List.sum_by}
use Rattle.shop_bound.proofs.MachineListTurns.{AreAddedTo}
use Rattle.shop_bound.proofs.machine_lists.add_rest.Given as goal

abbrev pub invariant-loop-op : goal.invariant-loop-op
invariant-loop-op l = record {
  added : AreAddedTo l.fn.lists l.lists l.free l.fn.ready l.ready l.rest l.op-index;
  tail : l.tail ≡ sum_by (λ o. o.time) (drop l.op-index l.rest);
  small : l.ready ≤ 1000000000000000 + l.op-index * 1000000000;
}
