use Rattle.std.proofs.Common.{rules}
use Rattle.shop_states.proofs.lane_bounds.is_ceiling_within.Goals as goal

pub returns-then-machine-ceilings : goal.returns-then-machine-ceilings
returns-then-machine-ceilings c = search rules
