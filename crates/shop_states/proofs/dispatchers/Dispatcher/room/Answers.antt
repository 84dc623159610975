use Rattle.std.proofs.{Common.arith, lemmas.List.length-replicate}
use Rattle.shop_states.proofs.dispatchers.Dispatcher.room.Goals as goal

pub returns : goal.returns
returns g c = grind (arith, length-replicate)
