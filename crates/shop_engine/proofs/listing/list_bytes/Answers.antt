use Rattle.std.proofs.Common.{rules}
use Rattle.shop_engine.proofs.listing.list_bytes.Goals as goal

pub returns-clause-list : goal.returns-clause-list
returns-clause-list c = search rules
