-- The choice among next operations by lanes.
--     AreNextsOf shop p l nexts      the position of the next operation of each job, or the number of all positions
--     IsJobBelow l heads among ..    an operation of job j waits among some positions with a head below a limit
--     IsJobAt l ps j                 job j has the operation at one of these positions
--     AreConflictBlocks greatest ..  blocks in which a conflict set can lie; the heads below an end are marked in the
--                                    first blocks
--     IsAlone heads from to ..       one operation at most waits in some blocks with a head below a limit
--     HaveJobs l positions most      each position has a job, all jobs being below a number
--     AreNextsOfJobs l heads nexts   each position has a job, and the next operations have theirs
--     AreNextsAt shop p l nexts ..   heads and next operations are those of placing p
use Rattle.std.specs.Prelude.{◌≡◌, ℕ, ◌+◌, ◌*◌, ◌≤◌, ◌<◌, List, All, length, slice_index}
use Rattle.shop_lanes.specs.{Marks.positions_among, Rows.Rows}
use Rattle.shop_model.specs.{Limits.IsWithinLimits, Shop.{Shop, route_of, IsOperation}, Word.Placing}
use Rattle.shop_bound.specs.Conflicts.{next_end}
use Rattle.shop_states.specs.{declared.lane_choices.ConflictBlocks.ConflictBlocks, inner.LaneHeads.AreHeadsAt}
use Rattle.shop_states.specs.inner.RisingLists.{IsIn}
use Rattle.shop_layout.specs.Positions.{position_or, LayoutState, IsLaidOut, first_position}

pub record AreNextsOf (shop : Shop) (p : Placing) (l : LayoutState) (nexts : List ℕ) : Type 0 where
  pub jobs : length nexts ≡ length shop.jobs
  pub are : (j : ℕ) → j < length shop.jobs
      → slice_index nexts j ≡ position_or (first_position l shop.machines) l.step_positions j (p.steps j)

pub record IsJobBelow (l : LayoutState) (heads : List ℕ) (among : ℕ → Type 0) (limit j : ℕ) : Type 0 where
  pub position : ℕ
  pub there : among position
  pub waits : 0 < slice_index heads position
  pub below : slice_index heads position < limit
  pub job : slice_index l.jobs position ≡ j

abbrev pub IsJobAt : LayoutState → List ℕ → ℕ → Type 0
IsJobAt l ps j = (q : ℕ) × IsIn ps q × (slice_index l.jobs q ≡ j)

pub record AreConflictBlocks (greatest : ℕ) (heads : List ℕ) (b : ConflictBlocks) : Type 0 where
  pub ordered : b.from ≤ b.to
  pub last : b.to ≤ b.behind
  pub within : 8 * b.behind ≤ length heads
  pub fits : b.end ≤ greatest
  pub marks : b.below ≡ positions_among heads b.from b.to b.end

-- no position but one of these blocks has a head below the limit
abbrev pub IsAlone : List ℕ → ℕ → ℕ → ℕ → ℕ → Type 0
IsAlone heads from to limit position = All (λ p. p ≡ position) (positions_among heads from to limit)

pub record HaveJobs (l : LayoutState) (positions most : ℕ) : Type 0 where
  pub many : length l.jobs ≡ positions
  pub below : (q : ℕ) → q < positions → slice_index l.jobs q < most

pub record AreNextsOfJobs (l : LayoutState) (heads nexts : List ℕ) : Type 0 where
  pub positions : length l.jobs ≡ length heads
  pub jobs : (q : ℕ) → q < length heads → slice_index l.jobs q < length nexts
  pub own : (j : ℕ) → j < length nexts → slice_index nexts j < length heads
      → slice_index l.jobs (slice_index nexts j) ≡ j

-- The ends by job: one more than when the next operation can end; where a job has none, the
-- greatest number, which no end reaches.
pub record AreEndsAt (greatest : ℕ) (shop : Shop) (p : Placing) (ends : List ℕ) : Type 0 where
  pub jobs : length ends ≡ length shop.jobs
  pub next : (j : ℕ) → IsOperation shop j (p.steps j) → slice_index ends j ≡ next_end shop p j + 1
  pub none : (j : ℕ) → j < length shop.jobs → length (route_of shop j) ≤ p.steps j → slice_index ends j ≡ greatest
  pub fits : (j : ℕ) → IsOperation shop j (p.steps j) → next_end shop p j + 1 < greatest

pub record AreNextsAt (shop : Shop) (p : Placing) (l : LayoutState) (nexts : List ℕ) (rows : Rows) : Type 0 where
  pub laid : IsLaidOut shop l
  pub limits : IsWithinLimits shop
  pub are : AreNextsOf shop p l nexts
  pub heads : AreHeadsAt shop p l rows.heads
  pub times : rows.times ≡ l.times
