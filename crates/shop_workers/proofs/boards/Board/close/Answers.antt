use Rattle.std.proofs.Common.{arith, rules}
use Rattle.shop_workers.proofs.ClosedBoards.{closes}
use Rattle.shop_workers.proofs.boards.Board.close.Goals as goal

pub free-requires : goal.free-requires
free-requires c k below = grind arith

pub returns : goal.returns
returns c = search (rules, closes)
