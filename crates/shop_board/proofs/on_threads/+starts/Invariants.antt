use Rattle.std.proofs.Common.{◌+◌, ◌*◌}
use Rattle.shop_board.proofs.on_threads.+starts.Given as goal

abbrev pub decreases-start_each : goal.decreases-start_each
decreases-start_each g l = 2 * l.jobs.len

abbrev pub decreases-others : goal.decreases-others
decreases-others g l = 2 * l.jobs.len + 1
