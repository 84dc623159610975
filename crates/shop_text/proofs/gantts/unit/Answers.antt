use Rattle.std.proofs.Common.{rules}
use Rattle.shop_text.proofs.gantts.unit.Goals as goal

pub returns-clause-unit : goal.returns-clause-unit
returns-clause-unit c = search rules
