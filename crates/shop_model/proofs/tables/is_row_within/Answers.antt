use Rattle.std.proofs.Common.{rules}
use Rattle.shop_model.proofs.tables.is_row_within.Goals as goal

pub returns : goal.returns
returns c = search rules
