use Rattle.std.proofs.Common.{ℕ, ◌<◌}
use Rattle.shop_model.specs.{Shop.IsOperation, Checking.{starts_of, AreApart, IsBefore}}
use Rattle.shop_model.proofs.overlaps.first_overlap_with.Given as goal

abbrev pub invariant-loop-i : goal.invariant-loop-i
invariant-loop-i l = (c d : ℕ) → c < l.i → IsOperation l.instance c d → IsBefore l.j l.k c d
    → AreApart l.instance (starts_of l.table) l.j l.k c d
