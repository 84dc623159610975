use Rattle.std.proofs.Common.{rules}
use Rattle.shop_workers.proofs.lock_search.Pool.take.Goals as goal

pub returns-clause-rises : goal.returns-clause-rises
returns-clause-rises c = search rules
