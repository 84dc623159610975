-- Crews by their number of workers.
--     workers_of crew      how many workers search side by side
use Rattle.std.specs.Prelude.{ℕ}
use Rattle.shop_board.specs.declared.worker_crews.WorkerCrew.{WorkerCrew}
use Rattle.shop_board.specs.declared.worker_crews.WorkerCrew.TheVariants.{One, Several}

abbrev pub workers_of : WorkerCrew → ℕ
workers_of (One alone) = 1
workers_of (Several crew) = crew.workers.count
