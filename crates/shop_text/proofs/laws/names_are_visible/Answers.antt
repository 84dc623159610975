use Rattle.shop_text.proofs.VisibleNames.{names_visible}
use Rattle.shop_text.proofs.laws.names_are_visible.Goals as goal

pub returns : goal.returns
returns c = names_visible
