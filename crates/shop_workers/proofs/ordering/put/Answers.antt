use Rattle.std.proofs.Common.{rules}
use Rattle.shop_workers.proofs.ordering.put.Goals as goal

pub returns-then-number-len-clause-fills : goal.returns-then-number-len-clause-fills
returns-then-number-len-clause-fills c = search rules
