use Rattle.std.proofs.Common.{rules}
use Rattle.shop_nodes.proofs.conflicts.NextOperation.conflicts_with.Goals as goal

pub returns-then-self-other : goal.returns-then-self-other
returns-then-self-other c = search rules
