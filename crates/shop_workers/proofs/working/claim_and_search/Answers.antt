use Rattle.std.proofs.{Common.arith, lemmas.{Bool.eq-eqb, Grind.common_steps, List.length-map}}
use Rattle.shop_runs.proofs.RoundPieces.{read_hit, same_hit}
use Rattle.shop_workers.proofs.working.claim_and_search.Goals as goal

pub passed-requires : goal.passed-requires
passed-requires g c = grind (arith, length-map, read_hit)

pub mark-requires-clause-hit : goal.mark-requires-clause-hit
mark-requires-clause-hit g c = grind (arith, same_hit, eq-eqb)

pub claim-requires-clause-piece : goal.claim-requires-clause-piece
claim-requires-clause-piece g c = grind (arith, common_steps)
