use Rattle.std.proofs.{Common.arith, lemmas.Grind.common_steps}
use Rattle.shop_workers.proofs.lock_search.search_or_pass.Goals as goal

pub passed-requires : goal.passed-requires
passed-requires g c = grind (arith, common_steps)
