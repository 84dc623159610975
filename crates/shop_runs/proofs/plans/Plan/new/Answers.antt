use Rattle.std.proofs.Common.{rules}
use Rattle.shop_runs.proofs.plans.Plan.new.Goals as goal

pub returns-clause-plan : goal.returns-clause-plan
returns-clause-plan c = search rules
