use Rattle.shop_engine.proofs.WholeRun.{one_whole_run}
use Rattle.shop_engine.proofs.laws.one_whole_run.Goals as goal

pub returns : goal.returns
returns c = one_whole_run
