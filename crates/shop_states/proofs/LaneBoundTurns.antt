-- One more turn of the loops that bound by lanes.
use Rattle.std.proofs.Common.{◌≡◌, ℕ, ◌≤◌, ◌<◌, List, length, set, arith}
use Rattle.std.proofs.lemmas.{Bool.cases_eq, List.{get_or-set_same, get_or-set_other, length-set}}
use Rattle.shop_states.specs.inner.LaneRaises.{Raise, raise_of, widened, AreRaisesUpTo}

-- a raise that was widened, and the others
module _ (raises : List Raise) (m a b : ℕ) (known : m < length raises) (after : List Raise)
    (is : after ≡ set raises m (widened (raise_of raises m) a b)) where
  pub raise_here : (i : ℕ) → i ≡ m → raise_of after i ≡ widened (raise_of raises m) a b
  raise_here i e = grind (arith, get_or-set_same)

  pub raise_other : (i : ℕ) → (i ≡ m → ⊥) → raise_of after i ≡ raise_of raises i
  raise_other i ne = grind (arith, get_or-set_other)

  pub raise_from : (i : ℕ) → (raise_of after i).from ≤ (raise_of raises i).from
  raise_from i = grind (arith, cases_eq, raise_here, raise_other)

  pub raise_to : (i : ℕ) → (raise_of raises i).to ≤ (raise_of after i).to
  raise_to i = grind (arith, cases_eq, raise_here, raise_other)

  pub up_to_turn : (top : ℕ) → b ≤ top → AreRaisesUpTo top raises → AreRaisesUpTo top after
  up_to_turn top small up_to i within = grind (arith, length-set, cases_eq, raise_here, raise_other)
