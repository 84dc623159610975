use Rattle.std.proofs.Common.{rules}
use Rattle.shop_round.proofs.alone.run_alone.Goals as goal

pub returns-clause-says : goal.returns-clause-says
returns-clause-says c = search rules
