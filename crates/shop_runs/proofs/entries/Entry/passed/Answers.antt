use Rattle.std.proofs.Common.{rules}
use Rattle.shop_runs.proofs.entries.Entry.passed.Goals as goal

pub returns-clause-kind : goal.returns-clause-kind
returns-clause-kind c = search rules
