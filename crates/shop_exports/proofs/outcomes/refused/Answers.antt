use Rattle.std.proofs.Common.{rules}
use Rattle.shop_exports.proofs.outcomes.refused.Goals as goal

pub returns-in-NoSuchName : goal.returns-in-NoSuchName
returns-in-NoSuchName c = search rules
