-- Each head that rises is foreseen, or noted in the raise of its machine.
--     floor_on own end m             up to where the heads on machine m are foreseen
--     AreSeen floors ms raises ..    each head that rose is foreseen, or within a raise
--     Watches floors ms ..           if all risen heads were seen before, all are seen afterwards
--     Sees ms among end ..           `Watches` for positions on one machine
--     Notes ms p end ..              nothing is foreseen, and what position p rises to is noted
--                                    already: so is all afterwards, if all was before
use Rattle.std.specs.Prelude.{◌≡◌, ℕ, ◌≤◌, ◌<◌, ◌⊎◌, max, List, length, slice_index, ◌==◌, if◌then◌else◌}
use Rattle.shop_states.specs.inner.LaneRaises.{AreRaisesUpTo, Raise, raise_of}

-- on the machine of the operation as far as its end, and not at all on others
abbrev pub floor_on : ℕ → ℕ → ℕ → ℕ
floor_on own end m = if m == own then end else 0

-- nothing is foreseen
abbrev pub no_floor : ℕ → ℕ
no_floor m = 0

-- a head that was a and is b stayed, is at most the floor, or is within the raise from there on
abbrev pub IsSeenAt : Raise → ℕ → ℕ → ℕ → Type 0
IsSeenAt r floor a b = (b ≤ max a floor) ⊎ ((r.from ≤ max a floor) × (b ≤ r.to))

abbrev pub AreSeen : (ℕ → ℕ) → List ℕ → List Raise → List ℕ → List ℕ → Type 0
AreSeen floors ms raises was now = (q : ℕ)
    → IsSeenAt (raise_of raises (slice_index ms q)) (floors (slice_index ms q)) (slice_index was q) (slice_index now q)

-- whatever the heads were first; and no raise goes beyond all heads
pub record Watches (floors : ℕ → ℕ) (ms old new : List ℕ) (before after : List Raise) : Type 0 where
  pub long : length after ≡ length before
  pub seen : (was : List ℕ) → AreSeen floors ms before was old → AreSeen floors ms after was new
  pub up_to : (top : ℕ) → ((q : ℕ) → slice_index new q ≤ top) → AreRaisesUpTo top before → AreRaisesUpTo top after

-- all these positions are on one machine
abbrev pub AreOn : ℕ → List ℕ → (ℕ → Type 0) → Type 0
AreOn own ms among = (q : ℕ) → among q → slice_index ms q ≡ own

pub record Sees (ms : List ℕ) (among : ℕ → Type 0) (end : ℕ) (old new : List ℕ)
    (before after : List Raise) : Type 0 where
  pub watches : (own : ℕ) → AreOn own ms among → Watches (floor_on own end) ms old new before after

pub record Notes (ms : List ℕ) (p end : ℕ) (old new : List ℕ) (before after : List Raise) : Type 0 where
  pub seen : (was : List ℕ) → IsSeenAt (raise_of before (slice_index ms p)) 0 (slice_index was p) end
      → AreSeen no_floor ms before was old → AreSeen no_floor ms after was new

-- the machine of each position is below `machines`
abbrev pub AreKnown : List ℕ → ℕ → Type 0
AreKnown ms machines = (q : ℕ) → q < length ms → slice_index ms q < machines
