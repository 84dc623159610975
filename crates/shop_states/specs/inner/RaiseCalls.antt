-- Requirements and results of a raise of heads.
--     CanNote value numbers ms ..    each machine has room for a raise, and each machine with a raise is in a list;
--                                    that takes so many numbers, one for at most 64 machines
--     CanRaise greatest l nexts ..   the heads at some positions can be raised
--     CanDelay greatest l nexts ..   a dispatch marks what it delays in the first blocks of its machine, and the heads
--                                    there can be raised to its end
--     HasRaised greatest l nexts ..  these heads are raised, and so is every later head on their
--                                    routes that was too early; how far later heads rose is noted
--                                    for their machines, which are all in a list
use Rattle.std.specs.Prelude.{◌≡◌, ℕ, ◌≤◌, ◌<◌, List, length}
use Rattle.shop_lanes.specs.Rows.{Rows}
use Rattle.shop_layout.specs.Positions.{LayoutState}
use Rattle.shop_states.specs.declared.{dispatches.Dispatch.Dispatch, lane_raises.LaneRaise.LaneRaise}
use Rattle.shop_states.specs.inner.{Dispatches.AreDelayedOn, LaneRaises.{Raise, raises_in}, MachineRaises.AreListed}
use Rattle.shop_states.specs.inner.{Raises.{AsksOwn, HasBlocks, IsOnMachine, IsRaisable, Raises}, Watchers.AreKnown}
use Rattle.shop_states.specs.inner.Watchers.{Sees}

pub record CanNote {N : Type 0} (value : N → ℕ) (numbers : ℕ) (ms : List ℕ) (raises : List (LaneRaise N))
    (raised : List ℕ) : Type 0 where
  pub some : 0 < numbers
  pub known : AreKnown ms (length raises)
  pub machines_fit : numbers ≡ 1 → length raises ≤ 64
  pub listed : AreListed (raises_in value raises) raised

pub record CanRaise (greatest : ℕ) (l : LayoutState) (nexts : List ℕ) (among : ℕ → Type 0) (e : ℕ)
    (rows : Rows) : Type 0 where
  pub fits : e ≤ greatest
  pub raisable : IsRaisable greatest l nexts rows among (AsksOwn e)
  pub jobs : length l.step_positions ≤ length nexts

pub record CanDelay (greatest : ℕ) (l : LayoutState) (nexts : List ℕ) (rows : Rows) (d : Dispatch) : Type 0 where
  pub machine : HasBlocks l (length rows.heads) d.machine
  pub delayed : AreDelayedOn l d.machine d.end rows.heads d.delayed
  pub fits : d.end ≤ greatest
  pub raisable : IsRaisable greatest l nexts rows (IsOnMachine l d.machine) (AsksOwn d.end)
  pub jobs : length l.step_positions ≤ length nexts

pub record HasRaised (greatest : ℕ) (l : LayoutState) (nexts : List ℕ) (among : ℕ → Type 0) (e : ℕ)
    (old new : Rows) (before after : List Raise) (listed_machines : List ℕ) : Type 0 where
  pub raises : Raises greatest l nexts among (AsksOwn e) old new
  pub seen : Sees l.machines among e old.heads new.heads before after
  pub listed : AreListed after listed_machines
  pub machines : length after ≡ length before
