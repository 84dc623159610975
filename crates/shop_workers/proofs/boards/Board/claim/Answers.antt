use Rattle.std.proofs.Common.{arith, rules}
use Rattle.shop_workers.proofs.ClaimSteps.{claims, decided}
use Rattle.shop_workers.proofs.boards.Board.claim.Goals as goal

pub swap-requires : goal.swap-requires
swap-requires c = search (rules, claims)

pub returns-clause-winner : goal.returns-clause-winner
returns-clause-winner c = grind (arith, decided)
