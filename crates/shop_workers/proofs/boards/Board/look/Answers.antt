use Rattle.std.proofs.Common.{rules}
use Rattle.shop_workers.proofs.HitSteps.{looks}
use Rattle.shop_workers.proofs.boards.Board.look.Goals as goal

pub load-requires : goal.load-requires
load-requires c = search (rules, looks)
