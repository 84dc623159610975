use Rattle.std.proofs.{Common.arith, lemmas.Grind.common_steps}
use Rattle.shop_layout.proofs.fixed_rows.FixedRows.of.Goals as goal

pub returns-clause-rows : goal.returns-clause-rows
returns-clause-rows c = grind (arith, common_steps)

pub returns-then-most-GREATEST-2-clause-rows : goal.returns-then-most-GREATEST-2-clause-rows
returns-then-most-GREATEST-2-clause-rows c = grind (arith, common_steps)

pub returns-then-most-GREATEST-clause-rows : goal.returns-then-most-GREATEST-clause-rows
returns-then-most-GREATEST-clause-rows c = grind (arith, common_steps)
