use Rattle.std.proofs.Common.{arith}
use Rattle.shop_lanes.proofs.MarkLemmas.{set_bits-lowest, set_bits-zero}
use Rattle.shop_lanes.proofs.marking.Marks.pop_first.Goals as goal

pub returns-then-self-eq0 : goal.returns-then-self-eq0
returns-then-self-eq0 c = grind (arith, set_bits-zero)

pub returns : goal.returns
returns c = grind (arith, set_bits-lowest)
