use Rattle.std.proofs.Common.{rules}
use Rattle.shop_states.proofs.lane_bounds.kept_ceiling.Goals as goal

pub returns-then-span-limit : goal.returns-then-span-limit
returns-then-span-limit c = search rules
