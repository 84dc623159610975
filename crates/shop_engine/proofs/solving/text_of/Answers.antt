use Rattle.std.proofs.Common.{rules}
use Rattle.shop_engine.proofs.solving.text_of.Goals as goal

pub returns-clause-written : goal.returns-clause-written
returns-clause-written c = search rules
