use Rattle.std.proofs.Common.{rules}
use Rattle.shop_workers.proofs.HitSteps.{marks}
use Rattle.shop_workers.proofs.boards.Board.mark.Goals as goal

pub fetch_min-requires : goal.fetch_min-requires
fetch_min-requires c = search (rules, marks)
