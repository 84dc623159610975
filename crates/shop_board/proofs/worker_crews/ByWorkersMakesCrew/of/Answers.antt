use Rattle.std.proofs.Common.{rules}
use Rattle.shop_board.proofs.worker_crews.ByWorkersMakesCrew.of.Goals as goal

pub returns-else-workers-eq1 : goal.returns-else-workers-eq1
returns-else-workers-eq1 c = search rules
