use Rattle.std.proofs.Common.{rules}
use Rattle.shop_text.proofs.gantts.show.Goals as goal

pub returns : goal.returns
returns c = search rules
