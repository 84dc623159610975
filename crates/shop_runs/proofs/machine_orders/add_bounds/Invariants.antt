use Rattle.std.specs.Prelude.{◌≡◌, length}
use Rattle.shop_runs.proofs.machine_orders.add_bounds.Given as goal

abbrev pub invariant-loop-machine : goal.invariant-loop-machine
invariant-loop-machine l = length l.keys ≡ length l.fn.keys
