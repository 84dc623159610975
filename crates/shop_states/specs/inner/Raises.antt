-- Heads by position that are raised.
--     AreInRouteOrder l heads        a step that waits ends, from its head on, not after the head
--                                    of the next step
--     asks p q v                     position p asks that the head at q be at least v; in particular:
--     AsksOwn e p q v                position p asks that its own head be at least e
--     AsksNext l free p q v          position p asks that the next head on its route be no earlier than an
--                                    operation at p ends that begins at `free p`
--     IsRaised l among asks old new  no head fell, routes are in order, and heads are as high as each position
--                                    in `among` asks at which something waits
--     IsLeastRaise l among asks ..   the least heads that are raised
--     IsRaisable greatest l nexts .. some raised heads fit into lanes
--     AreWaiting heads marks         marked positions, in order, at each of which something waits
--     Raises greatest l nexts ..     heads are raised least, and the ends of next operations kept up
use Rattle.std.specs.Prelude.{◌≡◌, ℕ, ◌+◌, ◌*◌, ◌≤◌, ◌<◌, ◌^◌, List, [], length, slice_index, slice_index_or}
use Rattle.shop_lanes.specs.Rows.{Rows}
use Rattle.shop_layout.specs.Positions.{LayoutState, position_of}
use Rattle.shop_states.specs.inner.{LaneEnds.IsEndOf, RisingLists.{IsIn, Rises}}

abbrev pub steps_of : LayoutState → ℕ → ℕ
steps_of l j = length (slice_index_or l.step_positions j [])

-- what a list has at each position
abbrev pub at_in : List ℕ → ℕ → ℕ
at_in xs q = slice_index xs q

-- step k of job j, and nothing else, stands at position q
pub record IsStepAt (l : LayoutState) (q j k : ℕ) : Type 0 where
  pub within : q < length l.jobs
  pub job : slice_index l.jobs q ≡ j
  pub step : slice_index l.steps q ≡ k

-- each step of a job has a position below n
pub record IsIndexed (l : LayoutState) (n : ℕ) : Type 0 where
  pub jobs : length l.jobs ≡ n
  pub steps : length l.steps ≡ n
  pub step : (j k : ℕ) → k < steps_of l j → IsStepAt l (position_of l j k) j k

-- a step stands at position q
pub record IsStepPosition (l : LayoutState) (q : ℕ) : Type 0 where
  pub job : slice_index l.jobs q < length l.step_positions
  pub step : slice_index l.steps q < steps_of l (slice_index l.jobs q)
  pub is : position_of l (slice_index l.jobs q) (slice_index l.steps q) ≡ q

abbrev pub AreInRouteOrder : LayoutState → (ℕ → ℕ) → Type 0
AreInRouteOrder l heads = (j k : ℕ) → k + 1 < steps_of l j → 0 < heads (position_of l j k)
    → heads (position_of l j k) + slice_index l.times (position_of l j k) ≤ heads (position_of l j (k + 1))

abbrev pub AsksOwn : ℕ → ℕ → ℕ → ℕ → Type 0
AsksOwn e p q v = (q ≡ p) × (v ≡ e)

pub record AsksNext (l : LayoutState) (free : ℕ → ℕ) (p q v : ℕ) : Type 0 where
  pub more : slice_index l.steps p + 1 < steps_of l (slice_index l.jobs p)
  pub next : q ≡ position_of l (slice_index l.jobs p) (slice_index l.steps p + 1)
  pub ready : v ≡ free p + slice_index l.times p

pub record IsRaised (l : LayoutState) (among : ℕ → Type 0) (asks : ℕ → ℕ → ℕ → Type 0) (old new : ℕ → ℕ) : Type 0 where
  pub rises : (q : ℕ) → old q ≤ new q
  pub rests : (q : ℕ) → old q ≡ 0 → new q ≡ 0
  pub order : AreInRouteOrder l new
  pub reach : (p q v : ℕ) → among p → asks p q v → 0 < old p → v ≤ new q

pub record IsLeastRaise (l : LayoutState) (among : ℕ → Type 0) (asks : ℕ → ℕ → ℕ → Type 0) (old new : List ℕ)
    : Type 0 where
  pub positions : length new ≡ length old
  pub raised : IsRaised l among asks (at_in old) (at_in new)
  pub least : (other : ℕ → ℕ) → IsRaised l among asks (at_in old) other → (q : ℕ) → slice_index new q ≤ other q

-- next operations are the first of their routes that wait
pub record AreFirst (l : LayoutState) (nexts heads : List ℕ) : Type 0 where
  pub own : (j : ℕ) → j < length nexts → slice_index nexts j < length heads
      → slice_index l.jobs (slice_index nexts j) ≡ j
  pub first : (j i k : ℕ) → j < length nexts → k + 1 < steps_of l i
      → position_of l i (k + 1) ≡ slice_index nexts j → slice_index heads (position_of l i k) ≡ 0

-- some raise fits into lanes, and so do the ends of next operations
pub record IsRaisable (greatest : ℕ) (l : LayoutState) (nexts : List ℕ) (rows : Rows)
    (among : ℕ → Type 0) (asks : ℕ → ℕ → ℕ → Type 0) : Type 0 where
  pub firsts : AreFirst l nexts rows.heads
  pub ends : length nexts ≤ length rows.ends
  pub indexed : IsIndexed l (length rows.heads)
  pub machines : length l.machines ≡ length rows.heads
  pub times : rows.times ≡ l.times
  pub timed : length l.times ≡ length rows.heads
  pub at_steps : (q : ℕ) → 0 < slice_index rows.heads q → IsStepPosition l q
  pub order : AreInRouteOrder l (at_in rows.heads)
  pub other : ℕ → ℕ
  pub raised : IsRaised l among asks (at_in rows.heads) other
  pub fits : (q : ℕ) → 0 < other q → other q + slice_index l.times q ≤ greatest
  pub computable : greatest < 2 ^ 64

-- the ends of next operations are kept up; without next operations no end changes
pub record KeepsEnds (greatest : ℕ) (nexts : List ℕ) (old new : Rows) : Type 0 where
  pub long : length new.ends ≡ length old.ends
  pub none : nexts ≡ [] → new.ends ≡ old.ends
  pub each : (j : ℕ) → j < length nexts → IsEndOf greatest nexts old j → IsEndOf greatest nexts new j

pub record Raises (greatest : ℕ) (l : LayoutState) (nexts : List ℕ) (among : ℕ → Type 0)
    (asks : ℕ → ℕ → ℕ → Type 0) (old new : Rows) : Type 0 where
  pub raised : IsLeastRaise l among asks old.heads new.heads
  pub times : new.times ≡ old.times
  pub tails : new.tails ≡ old.tails
  pub ends : KeepsEnds greatest nexts old new

-- one position, and the positions of some blocks
abbrev pub IsPosition : ℕ → ℕ → Type 0
IsPosition p q = q ≡ p

abbrev pub IsInBlocks : ℕ → ℕ → ℕ → Type 0
IsInBlocks from to q = (8 * from ≤ q) × (q < 8 * to)

abbrev pub IsOnMachine : LayoutState → ℕ → ℕ → Type 0
IsOnMachine l m q = IsInBlocks (slice_index l.blocks m) (slice_index l.blocks (m + 1)) q

-- positions in ascending order, at each of which something waits
pub record AreWaiting (heads marks : List ℕ) : Type 0 where
  pub waits : (q : ℕ) → IsIn marks q → 0 < slice_index heads q
  pub rises : Rises marks

-- the blocks of machine m are among the first n positions
pub record HasBlocks (l : LayoutState) (n m : ℕ) : Type 0 where
  pub small : m < 2 ^ 32
  pub known : m + 1 < length l.blocks
  pub ordered : slice_index l.blocks m ≤ slice_index l.blocks (m + 1)
  pub within : 8 * slice_index l.blocks (m + 1) ≤ n

-- the end of what stands at a position was set, if it is one of these next operations
pub record SetsEndAt (l : LayoutState) (nexts : List ℕ) (position begin : ℕ) (old new : Rows) : Type 0 where
  pub heads : new.heads ≡ old.heads
  pub times : new.times ≡ old.times
  pub tails : new.tails ≡ old.tails
  pub long : length new.ends ≡ length old.ends
  pub none : nexts ≡ [] → new.ends ≡ old.ends
  pub here : slice_index l.jobs position < length nexts → slice_index nexts (slice_index l.jobs position) ≡ position
      → slice_index new.ends (slice_index l.jobs position) ≡ begin + slice_index old.times position
  pub others : (j : ℕ) → j < length nexts → (slice_index nexts j ≡ position → ⊥)
      → slice_index new.ends j ≡ slice_index old.ends j
