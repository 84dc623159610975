use Rattle.std.proofs.Common.{ℕ, ◌<◌}
use Rattle.shop_model.specs.{Shop.IsOperation, Checking.{starts_of, AreApart}}
use Rattle.shop_model.proofs.overlaps.is_job_apart.Given as goal

abbrev pub invariant-loop-i : goal.invariant-loop-i
invariant-loop-i l = (k c d : ℕ) → IsOperation l.instance l.j k → l.j < c → c < l.i → IsOperation l.instance c d
    → AreApart l.instance (starts_of l.table) l.j k c d
