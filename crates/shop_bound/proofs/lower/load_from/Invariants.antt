use Rattle.std.proofs.Common.{take}
use Rattle.shop_bound.proofs.LeapTurns.{IsLoadOf}
use Rattle.shop_bound.proofs.lower.load_from.Given as goal

abbrev pub invariant-loop-t : goal.invariant-loop-t
invariant-loop-t l = IsLoadOf (take l.t-index l.triples) l.from l.time l.load
