use Rattle.std.specs.Prelude.{◌≡◌, length}
use Rattle.shop_runs.proofs.machine_orders.machine_keys.Given as goal

abbrev pub invariant-loop-piece-2 : goal.invariant-loop-piece-2
invariant-loop-piece-2 l = length l.keys.items ≡ l.instance.machines

abbrev pub invariant-loop-node : goal.invariant-loop-node
invariant-loop-node l = length l.keys.items ≡ l.instance.machines
