use Rattle.std.proofs.Common.{rules}
use Rattle.shop_runs.proofs.plans.Plan.ordered.Goals as goal

pub returns-then-piece-le-MAX_PIECE-clause-within : goal.returns-then-piece-le-MAX_PIECE-clause-within
returns-then-piece-le-MAX_PIECE-clause-within c = search rules
