use Rattle.std.proofs.Common.{ℕ, ◌≢◌, ◌<◌, ◌*◌, get_or, map}
use Rattle.shop_lanes.proofs.passes.first_least_of_any.Given as goal

abbrev pub invariant-loop-block : goal.invariant-loop-block
invariant-loop-block g l = (k : ℕ) → k < 8 * l.block → get_or (map g.B.Block.value l.numbers) k 0 ≢ l.least
