-- Numbers that no span of a machine exceeds.
--     AreChildCeilings .. j cs      with job j next, no span of a machine from whatever moment on is above its number;
--                                   on the job's own machine, from the end of its operation on
--     AreUnder cs raises l rows ..  what begins within the raise of a machine with a number is no more than that, or
--                                   than `least`
use Rattle.std.specs.Prelude.{◌≡◌, ℕ, ◌+◌, ◌≤◌, ◌<◌, max, List, length, slice_index}
use Rattle.shop_lanes.specs.{Rows.Rows, Spans.{span, spans_between}}
use Rattle.shop_layout.specs.{Lanes.lanes_on, Positions.LayoutState}
use Rattle.shop_model.specs.{Shop.{Shop, machine_of}, Word.{place_next, placing}}
use Rattle.shop_states.specs.{inner.LaneRaises.{Raise, raise_of}, inner.LaneHeads.AreHeadsAt, inner.Watchers.floor_on}

-- a moment is one higher, as heads in lanes are
abbrev pub AreChildCeilings : Shop → List ℕ → LayoutState → ℕ → List ℕ → Type 0
AreChildCeilings shop w l j cs =
    let p = placing shop w
    in let machine = machine_of shop j (p.steps j)
    in let end = (place_next shop p j).free machine + 1
    in (rows : Rows) → AreHeadsAt shop (place_next shop p j) l rows.heads → rows.times ≡ l.times
    → rows.tails ≡ l.tails → (m : ℕ) → m < length cs → m < shop.machines
    → (g : ℕ) → floor_on machine end m < g → span g g (lanes_on rows l m) ≤ slice_index cs m

abbrev pub AreUnder : List ℕ → List Raise → LayoutState → Rows → ℕ → Type 0
AreUnder cs raises l rows least = (m : ℕ) → m < length cs → m < length raises
    → spans_between (raise_of raises m).from (raise_of raises m).to (lanes_on rows l m) ≤ max least (slice_index cs m)
