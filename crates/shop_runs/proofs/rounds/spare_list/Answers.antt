use Rattle.std.proofs.Common.{rules}
use Rattle.shop_runs.proofs.rounds.spare_list.Goals as goal

pub returns-in-Some : goal.returns-in-Some
returns-in-Some c = search rules
