use Rattle.shop_states.proofs.MachineSets.{none_put}
use Rattle.shop_states.proofs.machine_sets.MachineSet.none.Goals as goal

pub returns : goal.returns
returns c = none_put
