use Rattle.std.proofs.Common.{arith}
use Rattle.shop_runs.proofs.machine_orders.machine_keys.Goals as goal

pub add_bounds-requires-clause-word : goal.add_bounds-requires-clause-word
add_bounds-requires-clause-word c = grind arith

pub loop-node-preserved : goal.loop-node-preserved
loop-node-preserved c = grind arith
