-- Rows of numbers by position, in blocks of eight, and the lanes that they make.
--     Rows                        heads, times and tails by position, and ends by job
--     Lane                        what stands at one position
--     index_at_rank count i       where rank i stands in `count` blocks: ranks run down the first lanes of all blocks,
--                                 then down the second lanes
--     by_columns count xs         what stands in `count` blocks, in order of rank
--     lanes_between rows from to  the lanes of the blocks from `from` on and before `to`, in order of rank
--     lanes_of heads times tails  the lanes of blocks of three rows, in order of rank
--     lanes_by value heads ..     the lanes of three rows of whole blocks, in order of rank, where `value` reads an
--                                 element as a number
--     lanes_in value rows         `lanes_by` of the heads, times and tails of a `LaneRows`
--     with_head, with_end         rows with one head, or one end, replaced
use Rattle.std.specs.Prelude.{◌≡◌, ℕ, zero, suc, ◌+◌, ◌*◌, ◌-◌, ◌/◌, ◌%◌, ◌≤◌, List, [], ◌∷◌, ◌++◌, length, map, take}
use Rattle.std.specs.Prelude.{drop, slice_set}
use Rattle.shop_lanes.specs.declared.lane_rows.LaneRows.{LaneRows}

pub record Rows : Type 0 where
  pub heads : List ℕ
  pub times : List ℕ
  pub tails : List ℕ
  pub ends : List ℕ

-- A head of 0 says that nothing waits at the position.
pub record Lane : Type 0 where
  pub head : ℕ
  pub time : ℕ
  pub tail : ℕ

abbrev pub lanes : List ℕ → List ℕ → List ℕ → List Lane
lanes [] ts qs = []
lanes (h ∷ hs) [] qs = []
lanes (h ∷ hs) (t ∷ ts) [] = []
lanes (h ∷ hs) (t ∷ ts) (q ∷ qs) = record { head = h; time = t; tail = q } ∷ lanes hs ts qs

-- the part of a row from block `from` on and before block `to`
abbrev pub blocks : {A : Type 0} → ℕ → ℕ → List A → List A
blocks from to xs = take (8 * to - 8 * from) (drop (8 * from) xs)

abbrev pub index_at_rank : ℕ → ℕ → ℕ
index_at_rank count i = 8 * (i % count) + i / count

-- what stands at the indices of the first n ranks
abbrev pub first_ranks : {A : Type 0} → ℕ → List A → ℕ → List A
first_ranks count xs zero = []
first_ranks count xs (suc n) = first_ranks count xs n ++ take 1 (drop (index_at_rank count n) xs)

abbrev pub by_columns : {A : Type 0} → ℕ → List A → List A
by_columns count xs = first_ranks count xs (8 * count)

abbrev pub lanes_between : Rows → ℕ → ℕ → List Lane
lanes_between rows from to = by_columns (to - from) (blocks from to (lanes rows.heads rows.times rows.tails))

abbrev pub lanes_of : List ℕ → List ℕ → List ℕ → ℕ → ℕ → List Lane
lanes_of heads times tails from to = by_columns (to - from) (blocks from to (lanes heads times tails))

abbrev pub lanes_by : {N : Type 0} → (N → ℕ) → List N → List N → List N → List Lane
lanes_by value heads times tails =
    by_columns (length heads / 8) (lanes (map value heads) (map value times) (map value tails))

abbrev pub lanes_in : {N : Type 0} → (N → ℕ) → LaneRows N → List Lane
lanes_in value rows = lanes_by value rows.heads.now rows.times.now rows.tails.now

-- `cut` has the blocks from `from` on and before `to` of each row
pub record AreCutFrom {N : Type 0} (rows : LaneRows N) (from to : ℕ) (cut : LaneRows N) : Type 0 where
  pub heads : cut.heads.now ≡ blocks from to rows.heads.now
  pub times : cut.times.now ≡ blocks from to rows.times.now
  pub tails : cut.tails.now ≡ blocks from to rows.tails.now

-- the blocks lie within the heads, and each head has a time and a tail
pub record AreBlocksOf (heads times tails : List ℕ) (from to : ℕ) : Type 0 where
  pub ordered : from ≤ to
  pub within : 8 * to ≤ length heads
  pub times_are_as_many : length times ≡ length heads
  pub tails_are_as_many : length tails ≡ length heads

-- the blocks lie within the heads
pub record AreBlocks (rows : Rows) (from to : ℕ) : Type 0 where
  pub ordered : from ≤ to
  pub within : 8 * to ≤ length rows.heads

abbrev pub with_head : Rows → ℕ → ℕ → Rows
with_head rows position head = record rows { heads = slice_set rows.heads position head }

abbrev pub with_end : Rows → ℕ → ℕ → Rows
with_end rows job end = record rows { ends = slice_set rows.ends job end }
