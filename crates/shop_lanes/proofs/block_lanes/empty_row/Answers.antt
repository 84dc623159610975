use Rattle.std.proofs.{Common.arith, lemmas.List.{length-map, length-replicate, length-take, take-replicate}}
use Rattle.shop_lanes.proofs.EmptyRows.{is_cleared}
use Rattle.shop_lanes.proofs.block_lanes.empty_row.Goals as goal

pub returns-clause-empty : goal.returns-clause-empty
returns-clause-empty g c = grind (arith, length-map, length-replicate, take-replicate, is_cleared)

pub returns-clause-room : goal.returns-clause-room
returns-clause-room g c = grind (arith, length-map, length-replicate, length-take)

pub end_row-requires : goal.end_row-requires
end_row-requires g c = grind (arith, length-map, length-replicate)
