use Rattle.shop_model.proofs.SoonestStarts.{all_begin_as_soon}
use Rattle.shop_model.proofs.laws.operations_begin_as_soon_as_they_can.Goals as goal

pub returns : goal.returns
returns c = λ shop w v later j e. all_begin_as_soon shop w v later j e
