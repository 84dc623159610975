use Rattle.shop_engine.proofs.Optima.{optimal_where_bound_is_makespan}
use Rattle.shop_engine.proofs.laws.optimal_where_bound_is_makespan.Goals as goal

pub returns : goal.returns
returns c = optimal_where_bound_is_makespan
