use Rattle.std.proofs.{Common.arith, lemmas.Grind.common_steps}
use Rattle.shop_text.proofs.Pairs.{pair_at, fault_on, route_on}
use Rattle.shop_text.proofs.instance_drafts.route_of.Goals as goal

pub loop-i-preserved : goal.loop-i-preserved
loop-i-preserved c = grind (arith, pair_at, fault_on, route_on, common_steps)

pub returns-clause-judged : goal.returns-clause-judged
returns-clause-judged c = grind (arith, common_steps)

pub returns-then-time-gt-MAX_TIME-clause-judged : goal.returns-then-time-gt-MAX_TIME-clause-judged
returns-then-time-gt-MAX_TIME-clause-judged c = grind (arith, common_steps)

pub returns-then-machine-machines-clause-judged : goal.returns-then-machine-machines-clause-judged
returns-then-machine-machines-clause-judged c = grind (arith, common_steps)
