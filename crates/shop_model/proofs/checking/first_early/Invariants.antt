use Rattle.std.proofs.Common.{ℕ, ◌<◌, ◌≤◌}
use Rattle.shop_model.specs.{Shop.IsOperation, Checking.{starts_of, earliest_of}}
use Rattle.shop_model.proofs.checking.first_early.Given as goal

abbrev pub invariant-loop-j : goal.invariant-loop-j
invariant-loop-j l = (i m : ℕ) → i < l.j → IsOperation l.instance i m
    → earliest_of l.instance (starts_of l.table) i m ≤ starts_of l.table i m
