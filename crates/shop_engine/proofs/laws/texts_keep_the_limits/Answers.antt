use Rattle.shop_engine.proofs.TextLimits.{texts_keep_the_limits}
use Rattle.shop_engine.proofs.laws.texts_keep_the_limits.Goals as goal

pub returns : goal.returns
returns c = texts_keep_the_limits
