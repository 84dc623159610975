-- The operations of an instance by position: machine after machine, on a machine by nonincreasing tail down the columns
-- of its blocks.
--     position_of l j k            the position of step k of job j
--     position_or n rows j k       the position in the row of job j, or n if it has no step k
--     position_behind l q          the position of the step behind that at position q, or the number of all positions
--     AreMachinesOf blocks n ms    the machine of each position, of the first n machines
--     AreEven blocks each          each machine has `each` blocks, unless `each` is 0
--     HoldsMachines l n            no machine has more than n positions
--     position_at_rank blocks m i  where rank i of machine m stands
--     IsAt l q s                   operation s stands at position q
--     IsFree shop l q              no operation of the instance stands there
--     IsPadding l q                time and tail are 0 at position q
--     IsLaidOut shop l             l is the layout of the instance
use Rattle.std.specs.Prelude.{◌≡◌, ℕ, ◌+◌, ◌-◌, ◌*◌, ◌^◌, ◌≤◌, ◌<◌, List, [], length, slice_index, slice_index_or}
use Rattle.std.specs.Prelude.{if◌then◌else◌, nat_lt}
use Rattle.shop_lanes.specs.Rows.{index_at_rank}
use Rattle.shop_model.specs.Shop.{Shop, IsOperation, route_of}
use Rattle.shop_layout.specs.{Slots.AreMachineSlots, declared.slots.Slot.Slot}

-- the job, the step, the time and the tail of the operation at a position; the position of each step of each job; the
-- first block of eight positions of each machine, with the number of all blocks behind the last; and the machine of a
-- position
pub record LayoutState : Type 0 where
  pub jobs : List ℕ
  pub steps : List ℕ
  pub times : List ℕ
  pub tails : List ℕ
  pub step_positions : List (List ℕ)
  pub blocks : List ℕ
  pub machines : List ℕ

abbrev pub position_in : List (List ℕ) → ℕ → ℕ → ℕ
position_in rows j k = slice_index (slice_index_or rows j []) k

abbrev pub position_of : LayoutState → ℕ → ℕ → ℕ
position_of l j k = position_in l.step_positions j k

abbrev pub position_or : ℕ → List (List ℕ) → ℕ → ℕ → ℕ
position_or n rows j k = if nat_lt k (length (slice_index_or rows j [])) then position_in rows j k else n

abbrev pub position_behind : LayoutState → ℕ → ℕ
position_behind l q = position_or (length l.jobs) l.step_positions (slice_index l.jobs q) (slice_index l.steps q + 1)

pub record AreMachinesOf (blocks : List ℕ) (machines : ℕ) (ms : List ℕ) : Type 0 where
  pub positions : length ms ≡ 8 * slice_index blocks machines
  pub known : (q : ℕ) → q < length ms → slice_index ms q < machines
  pub at : (m q : ℕ) → m < machines → 8 * slice_index blocks m ≤ q
      → q < 8 * slice_index blocks (m + 1) → slice_index ms q ≡ m

pub record AreMultiples (blocks : List ℕ) (each : ℕ) : Type 0 where
  pub at : (m : ℕ) → m < length blocks → slice_index blocks m ≡ each * m
  pub small : (m : ℕ) → m < length blocks → each * m < 2 ^ 32

abbrev pub AreEven : List ℕ → ℕ → Type 0
AreEven blocks each = 0 < each → AreMultiples blocks each

-- the first position of machine m, and how many positions there are
abbrev pub first_position : LayoutState → ℕ → ℕ
first_position l m = 8 * slice_index l.blocks m

abbrev pub HoldsMachines : LayoutState → ℕ → Type 0
HoldsMachines l n = (m : ℕ) → m + 1 < length l.blocks → first_position l (m + 1) ≤ first_position l m + n

-- ranks run down the first lane of all blocks of the machine, then down the second one, and so on
abbrev pub position_at_rank : List ℕ → ℕ → ℕ → ℕ
position_at_rank blocks m i = 8 * slice_index blocks m
    + index_at_rank (slice_index blocks (m + 1) - slice_index blocks m) i

pub record IsAt (l : LayoutState) (q : ℕ) (s : Slot) : Type 0 where
  pub job : slice_index l.jobs q ≡ s.job
  pub step : slice_index l.steps q ≡ s.step
  pub time : slice_index l.times q ≡ s.time
  pub tail : slice_index l.tails q ≡ s.tail
  pub position : position_of l s.job s.step ≡ q

abbrev pub IsFree : Shop → LayoutState → ℕ → Type 0
IsFree shop l q = (j k : ℕ) → IsOperation shop j k → position_of l j k ≡ q → ⊥

pub record IsPadding (l : LayoutState) (q : ℕ) : Type 0 where
  pub time : slice_index l.times q ≡ 0
  pub tail : slice_index l.tails q ≡ 0

-- each row has n positions
pub record HasPositions (l : LayoutState) (n : ℕ) : Type 0 where
  pub jobs : length l.jobs ≡ n
  pub steps : length l.steps ≡ n
  pub times : length l.times ≡ n
  pub tails : length l.tails ≡ n

-- the operations of machine m, by nonincreasing tail, have the first ranks, and the other ranks padding
pub record IsMachineLaidOut (l : LayoutState) (m : ℕ) (slots : List Slot) : Type 0 where
  pub room : first_position l m + length slots ≤ first_position l (m + 1)
  pub at : (i : ℕ) (d : Slot) → i < length slots → IsAt l (position_at_rank l.blocks m i) (slice_index_or slots i d)
  pub padding : (i : ℕ) → length slots ≤ i → first_position l m + i < first_position l (m + 1)
      → IsPadding l (position_at_rank l.blocks m i)

pub record IsLaidOut (shop : Shop) (l : LayoutState) : Type 0 where
  pub slots : List (List Slot)
  pub are : AreMachineSlots shop slots
  pub machines : length l.blocks ≡ shop.machines + 1
  pub from_0 : slice_index l.blocks 0 ≡ 0
  pub positions : HasPositions l (first_position l shop.machines)
  pub each : (m : ℕ) → m < shop.machines → IsMachineLaidOut l m (slice_index_or slots m [])
  pub jobs : length l.step_positions ≡ length shop.jobs
  pub routes : (j : ℕ) → length (slice_index_or l.step_positions j []) ≡ length (route_of shop j)
  pub machines_at : AreMachinesOf l.blocks shop.machines l.machines
  pub known : (q : ℕ) → q < first_position l shop.machines → slice_index l.jobs q < length shop.jobs
