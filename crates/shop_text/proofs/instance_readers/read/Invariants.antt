use Rattle.std.proofs.Common.{length}
use Rattle.shop_text.specs.inner.InstanceReading.{IsOnTheWay}
use Rattle.shop_text.proofs.instance_readers.read.Given as goal

abbrev pub invariant-loop-rest : goal.invariant-loop-rest
invariant-loop-rest l = IsOnTheWay l.text l.number l.rest l.fn.format l.reader

abbrev pub decreases-loop-rest : goal.decreases-loop-rest
decreases-loop-rest l = length l.rest
