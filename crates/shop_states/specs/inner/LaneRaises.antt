-- Which heads rose on a machine.
--     Raise                          of the heads that rose, the least old and the greatest new one
--     raises_in value raises         raises of numbers of lanes, by the values of these
--     raise_of raises m              that of machine m
--     nothing_raised greatest        the raise where no head rose
--     widened raise a b              with one more head, which was a and is b
use Rattle.std.specs.Prelude.{ℕ, ◌≤◌, ◌<◌, min, max, List, length, map, slice_index_or}
use Rattle.shop_states.specs.declared.lane_raises.LaneRaise.{LaneRaise}

pub record Raise : Type 0 where
  pub from : ℕ
  pub to : ℕ

-- one raise, by the values of its numbers
abbrev pub raise_in : {N : Type 0} → (N → ℕ) → LaneRaise N → Raise
raise_in value r = record { from = value r.from; to = value r.to }

abbrev pub raises_in : {N : Type 0} → (N → ℕ) → List (LaneRaise N) → List Raise
raises_in value raises = map (raise_in value) raises

-- what stands where there is no machine
abbrev pub no_raise : Raise
no_raise = record { from = 0; to = 0 }

abbrev pub raise_of : List Raise → ℕ → Raise
raise_of raises m = slice_index_or raises m no_raise

abbrev pub nothing_raised : ℕ → Raise
nothing_raised greatest = record { from = greatest; to = 0 }

abbrev pub widened : Raise → ℕ → ℕ → Raise
widened r a b = record { from = min r.from a; to = max r.to b }

-- no raise goes beyond
abbrev pub AreRaisesUpTo : ℕ → List Raise → Type 0
AreRaisesUpTo top raises = (m : ℕ) → m < length raises → (raise_of raises m).to ≤ top
