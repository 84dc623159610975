-- A bound that matters only below a limit.
use Rattle.std.proofs.Common.{◌≡◌, ◌≤◌, ◌<◌, ℕ}

-- b is the bound, or no greater and reaches the limit
pub record IsBoundUpTo (limit bound b : ℕ) : Type 0 where
  pub at_most : b ≤ bound
  pub exact : b < limit → b ≡ bound
