use Rattle.std.proofs.Common.{ℕ, ◌<◌}
use Rattle.shop_model.specs.{Shop.IsOperation, Checking.{starts_of, AreApart, IsBefore}}
use Rattle.shop_model.proofs.overlaps.first_overlap_of.Given as goal

abbrev pub invariant-loop-k : goal.invariant-loop-k
invariant-loop-k l = (b c d : ℕ) → b < l.k → IsOperation l.instance c d → IsBefore l.j b c d
    → AreApart l.instance (starts_of l.table) l.j b c d
