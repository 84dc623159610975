use Rattle.std.proofs.{Common.arith, lemmas.Grind.common_steps}
use Rattle.shop_workers.proofs.seat_lending.put_returned.Goals as goal

pub claim_rest-requires-clause-by_piece : goal.claim_rest-requires-clause-by_piece
claim_rest-requires-clause-by_piece c = grind (arith, common_steps)
