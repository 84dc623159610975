use Rattle.std.proofs.Common.{arith}
use Rattle.shop_runs.proofs.outcomes.RoundResult.take_in.Goals as goal

pub returns : goal.returns
returns c = grind arith
