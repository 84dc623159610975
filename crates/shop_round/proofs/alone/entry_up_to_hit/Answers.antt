use Rattle.std.proofs.Common.{rules}
use Rattle.shop_round.proofs.alone.entry_up_to_hit.Goals as goal

pub done-requires : goal.done-requires
done-requires c = search rules
