use Rattle.shop_lanes.proofs.MarkLemmas.{no_bits_exactly}
use Rattle.shop_lanes.proofs.marking.Marks.is_empty.Goals as goal

pub returns : goal.returns
returns c = no_bits_exactly 64 c.self.inside.first c.self.inside.bits c.args.self.now c.self.invariant.1 c.self.view_is
