use Rattle.std.proofs.Common.{rules}
use Rattle.shop_exports.proofs.outcomes.give.Goals as goal

pub returns-else-fits-2 : goal.returns-else-fits-2
returns-else-fits-2 c = search rules
