-- Lanes with the layout of their instance. `g` reads lanes as numbers.
--     rows_in g l lanes          the heads and ends of lanes, with the times and tails of the layout
--     KeepsWord g l s shop w     the state s is that of word w
--     RaisesIn, HasRaisedIn ..   `Raises`, up to e, and `HasRaised` of the rows of old and new lanes
use Rattle.std.specs.Prelude.{ℕ, List}
use Rattle.shop_lanes.specs.{Rows.Rows, declared.state_lanes.StateLanes.Ghosts}
use Rattle.shop_model.specs.Shop.{Shop}
use Rattle.shop_layout.specs.{Lanes.rows_of, Positions.LayoutState}
use Rattle.shop_states.specs.declared.states.State.{State}
use Rattle.shop_states.specs.{inner.LaneRaises.Raise, inner.LaneStates.IsKeptInLanes, inner.RaiseCalls.HasRaised}
use Rattle.shop_states.specs.inner.Raises.{AsksOwn, Raises}

module _ {L N : Type 0} (g : Ghosts L N) (l : LayoutState) where
  abbrev pub rows_in : L → Rows
  rows_in lanes = rows_of l (g.heads lanes) (g.ends lanes)

  abbrev pub KeepsWord : State L N → Shop → List ℕ → Type 0
  KeepsWord s shop w = IsKeptInLanes g.GREATEST shop w l (rows_in s.lanes) s.next.items

  abbrev pub RaisesIn : List ℕ → (ℕ → Type 0) → ℕ → L → L → Type 0
  RaisesIn nexts among e old new = Raises g.GREATEST l nexts among (AsksOwn e) (rows_in old) (rows_in new)

  abbrev pub HasRaisedIn : List ℕ → (ℕ → Type 0) → ℕ → L → L → List Raise → List Raise → List ℕ → Type 0
  HasRaisedIn nexts among e old new = HasRaised g.GREATEST l nexts among e (rows_in old) (rows_in new)
