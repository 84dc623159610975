use Rattle.std.proofs.Common.{rules}
use Rattle.shop_text.proofs.instance_drafts.size_of.Goals as goal

pub returns-then-row-lt2-clause-judged : goal.returns-then-row-lt2-clause-judged
returns-then-row-lt2-clause-judged c = search rules
