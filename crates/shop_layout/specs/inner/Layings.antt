-- How the operations of an instance are put at their positions.
--     AreCells lists n cells blocks  the first n lists stand in the cells, each in its blocks, down their columns
--     AreAdded list count n ..       what is at the first n indices of a list's blocks was added to cells
--     AreApart slots                 no two are the same step of a job
--     HaveRoom lists n blocks        each of the first n lists has room in its blocks
--     AreNoted n first count ..      the positions of the first n of a machine's slots were written, and nothing else
--     AreStepPositions shop lists .. the positions of the slots of the first n machines
use Rattle.std.specs.Prelude.{◌≡◌, ℕ, ◌+◌, ◌*◌, ◌/◌, ◌%◌, ◌≤◌, ◌<◌, List, [], length, slice_index, slice_index_or}
use Rattle.shop_lanes.specs.Rows.{index_at_rank}
use Rattle.shop_model.specs.Shop.{Shop, route_of}
use Rattle.shop_layout.specs.{Positions.{position_in, position_at_rank}, declared.slots.Slot.Slot}

-- what stands at padding
abbrev pub no_slot : Slot
no_slot = record { job = 0; step = 0; time = 0; tail = 0 }

-- no list has more than n elements
abbrev pub AreShorter : ℕ → List (List Slot) → Type 0
AreShorter n lists = (m : ℕ) → length (slice_index_or lists m []) ≤ n

-- each of the first n indices of `count` blocks has what the list has at its rank, or no slot
pub record AreAdded (list : List Slot) (count n : ℕ) (old new : List Slot) : Type 0 where
  pub long : length new ≡ length old + n
  pub before : (q : ℕ) → q < length old → slice_index_or new q no_slot ≡ slice_index_or old q no_slot
  pub at : (p : ℕ) → p < n → slice_index_or new (length old + p) no_slot
      ≡ slice_index_or list (p % 8 * count + p / 8) no_slot

-- the first ranks of machine m have what is in list m, and the others padding
pub record IsListIn (cells : List Slot) (blocks : List ℕ) (m : ℕ) (slots : List Slot) : Type 0 where
  pub room : 8 * slice_index blocks m + length slots ≤ 8 * slice_index blocks (m + 1)
  pub at : (i : ℕ) (d : Slot) → i < length slots
      → slice_index_or cells (position_at_rank blocks m i) no_slot ≡ slice_index_or slots i d
  pub padding : (i : ℕ) → length slots ≤ i → 8 * slice_index blocks m + i < 8 * slice_index blocks (m + 1)
      → slice_index_or cells (position_at_rank blocks m i) no_slot ≡ no_slot
  pub within : 8 * slice_index blocks (m + 1) ≤ length cells

pub record AreCells (lists : List (List Slot)) (n : ℕ) (cells : List Slot) (blocks : List ℕ) : Type 0 where
  pub machines : length blocks ≡ n + 1
  pub from_0 : slice_index blocks 0 ≡ 0
  pub whole : length cells ≡ 8 * slice_index blocks n
  pub each : (m : ℕ) → m < n → IsListIn cells blocks m (slice_index_or lists m [])
  pub few : length cells ≤ n * 100008
  pub some : 0 < length cells → (m : ℕ) × (m < n) × (0 < length (slice_index_or lists m []))

abbrev pub AreApart : List Slot → Type 0
AreApart slots = (p q : ℕ) (d : Slot) → p < q → q < length slots
    → (slice_index_or slots p d).job ≡ (slice_index_or slots q d).job
    → (slice_index_or slots p d).step ≡ (slice_index_or slots q d).step → ⊥

-- a row for each job, as long as its route
pub record HasRoutes (shop : Shop) (rows : List (List ℕ)) : Type 0 where
  pub jobs : length rows ≡ length shop.jobs
  pub routes : (j : ℕ) → length (slice_index_or rows j []) ≡ length (route_of shop j)

-- there is an entry for each slot
pub record IsInRows (rows : List (List ℕ)) (s : Slot) : Type 0 where
  pub job : s.job < length rows
  pub step : s.step < length (slice_index_or rows s.job [])

abbrev pub HaveRoom : List (List Slot) → ℕ → List ℕ → Type 0
HaveRoom lists n blocks = (m : ℕ) → m < n
    → 8 * slice_index blocks m + length (slice_index_or lists m []) ≤ 8 * slice_index blocks (m + 1)

pub record AreNoted (n first count : ℕ) (slots : List Slot) (old new : List (List ℕ)) : Type 0 where
  pub long : length new ≡ length old
  pub rows : (j : ℕ) → length (slice_index_or new j []) ≡ length (slice_index_or old j [])
  pub noted : (i : ℕ) (d : Slot) → i < n
      → position_in new (slice_index_or slots i d).job (slice_index_or slots i d).step ≡ first + index_at_rank count i
  pub others : (j k : ℕ)
      → ((i : ℕ) (d : Slot) → i < n → (slice_index_or slots i d).job ≡ j → (slice_index_or slots i d).step ≡ k → ⊥)
      → position_in new j k ≡ position_in old j k

pub record AreStepPositions (shop : Shop) (lists : List (List Slot)) (blocks : List ℕ) (n : ℕ)
    (rows : List (List ℕ)) : Type 0 where
  pub shape : HasRoutes shop rows
  pub each : (m i : ℕ) (d : Slot) → m < n → i < length (slice_index_or lists m [])
      → position_in rows (slice_index_or (slice_index_or lists m []) i d).job
      (slice_index_or (slice_index_or lists m []) i d).step ≡ position_at_rank blocks m i
