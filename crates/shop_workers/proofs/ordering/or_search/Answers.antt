use Rattle.std.proofs.Common.{rules}
use Rattle.shop_workers.proofs.ordering.or_search.Goals as goal

pub returns-in_ok-sheet-in-None-clause-kept : goal.returns-in_ok-sheet-in-None-clause-kept
returns-in_ok-sheet-in-None-clause-kept g c = search rules
