-- What a pass over lanes keeps.
--     clock_after least start xs     when the last lane with a head of at least `least` ends, if
--                                    these are served in order from `start` on
--     column count xs k              of lanes in order of rank, column k of `count` blocks
--     eight f                        the numbers that a function gives for each of eight columns
--     CanRaiseBound value ..         rows of whole blocks have spans from heads up to `upto` that fit
--     CanFindLeast value ..          a row of whole blocks has a first least number
use Rattle.std.specs.Prelude.{◌≡◌, ℕ, ◌+◌, ◌*◌, ◌-◌, ◌%◌, ◌^◌, take, drop, replicate, ◌<◌, ◌≤◌, length, max, List}
use Rattle.std.specs.{Prelude.{[], ◌∷◌, if◌then◌else◌, nat_le, get_or, map, slice_index}, Simd.Lanes.zip2}
use Rattle.shop_lanes.specs.{Eights.{first_of, added, waiting, AddsFit}, Ends.IsFirstLeast, Rows.{Lane, lanes_in}}
use Rattle.shop_lanes.specs.{Spans.{FitsSpan, span}, declared.lane_rows.LaneRows.LaneRows}

abbrev pub clock_after : ℕ → ℕ → List Lane → ℕ
clock_after least start [] = start
clock_after least start (x ∷ xs) =
    if nat_le least x.head then clock_after least (start + x.time) xs else clock_after least start xs

abbrev pub column : ℕ → List Lane → ℕ → List Lane
column count xs k = take count (drop (k * count) xs)

abbrev pub eight : (ℕ → ℕ) → List ℕ
eight f = f 0 ∷ f 1 ∷ f 2 ∷ f 3 ∷ f 4 ∷ f 5 ∷ f 6 ∷ f 7 ∷ []

-- each column served by itself from 0 on: the clock afterwards, and the greatest end
pub record AreColumns {B : Type 0} (numbers : B → List ℕ) (count : ℕ) (xs : List Lane) (least : ℕ)
    (served : B × B) : Type 0 where
  pub clocks_are : numbers served.0 ≡ eight (λ k. clock_after least 0 (column count xs k))
  pub ends_are : numbers served.1 ≡ eight (λ k. span least 0 (column count xs k))

-- the times of the lanes that wait, 0 in the others
abbrev pub times_served : {B : Type 0} → (B → List ℕ) → B → B → B → List ℕ
times_served numbers heads times least = waiting (first_of (numbers least)) (numbers heads) (numbers times)

-- no sum is above what a lane holds
pub record FitServed {B : Type 0} (limit : ℕ) (numbers : B → List ℕ) (heads times tails least clocks : B) : Type 0 where
  pub clocks_fit : AddsFit limit (numbers clocks) (times_served numbers heads times least)
  pub ends_fit : AddsFit limit (added (numbers clocks) (times_served numbers heads times least)) (numbers tails)

-- a block served: the clocks afterwards, and the greatest end so far in each column
pub record AreServed {B : Type 0} (numbers : B → List ℕ) (heads times tails least clocks most : B)
    (served : B × B) : Type 0 where
  pub clocks_are : numbers served.0 ≡ added (numbers clocks) (times_served numbers heads times least)
  pub most_are : numbers served.1 ≡ zip2 max (numbers most)
      (waiting (first_of (numbers least)) (numbers heads) (added (numbers served.0) (numbers tails)))

-- the ends of jobs, padded to whole blocks by `none`, the greatest number
pub record IsPadded (none jobs : ℕ) (ends : List ℕ) : Type 0 where
  pub whole_blocks : length ends % 8 ≡ 0
  pub within : jobs ≤ length ends
  pub rest : drop jobs ends ≡ replicate (length ends - jobs) none
  pub least : (k : ℕ) → get_or ends k 0 ≤ none

pub record CanRaiseBound {A : Type 0} (value : A → ℕ) (greatest upto : ℕ) (rows : LaneRows A) : Type 0 where
  pub whole_blocks : length rows.heads.now % 8 ≡ 0
  pub below : upto < greatest
  pub fits : FitsSpan greatest upto (lanes_in value rows)

pub record CanFindLeast {A : Type 0} (value : A → ℕ) (greatest : ℕ) (numbers : List A) : Type 0 where
  pub whole_blocks : length numbers % 8 ≡ 0
  pub room : length numbers + 8 ≤ 2 ^ 64
  pub some : 0 < length numbers
  pub fits : (k : ℕ) → slice_index (map value numbers) k ≤ greatest

-- its position and itself
pub record IsLeastFound (xs : List ℕ) (found : ℕ × ℕ) : Type 0 where
  pub first : IsFirstLeast xs found.0
  pub least : found.1 ≡ slice_index xs found.0
