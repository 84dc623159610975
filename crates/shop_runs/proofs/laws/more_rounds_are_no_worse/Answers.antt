use Rattle.shop_runs.proofs.Ending.{more_rounds_are_no_worse}
use Rattle.shop_runs.proofs.laws.more_rounds_are_no_worse.Goals as goal

pub returns : goal.returns
returns c = more_rounds_are_no_worse
