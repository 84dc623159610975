use Rattle.std.proofs.{Common.arith, lemmas.List.{get_or-map, map-set}}
use Rattle.shop_states.proofs.lane_raises.take_raise.Goals as goal

pub returns-clause-raise : goal.returns-clause-raise
returns-clause-raise g c = grind (arith, get_or-map)

pub returns-clause-empty : goal.returns-clause-empty
returns-clause-empty g c = grind (arith, map-set)
