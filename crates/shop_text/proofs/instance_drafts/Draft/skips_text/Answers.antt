use Rattle.std.proofs.{Common.{arith, vec_len}, lemmas.Grind.common_steps, lemmas.Bool.{eqb-true, eqb-false}}
use Rattle.shop_text.proofs.DraftLemmas.{skips_full, skips_not}
use Rattle.shop_text.proofs.instance_drafts.Draft.skips_text.Goals as goal

pub returns-then-is_empty-2 : goal.returns-then-is_empty-2
returns-then-is_empty-2 c = grind (arith, common_steps, eqb-false, vec_len, eqb-true, skips_full)

pub returns-else-is_empty-2 : goal.returns-else-is_empty-2
returns-else-is_empty-2 c = grind (arith, common_steps, eqb-false, vec_len, skips_not)
