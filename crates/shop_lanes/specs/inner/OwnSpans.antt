-- What the passes for own spans keep.
--     CanOwn value greatest rows owns  rows of whole blocks have room in `owns` for their own spans
--     WritesOwnSpans value rows ..     `new` has the own span of each operation that waits
--     rank_of count p                  the rank of index p in `count` blocks
--     AreClocks .. count xs j          the clock in each column before j blocks down, with all served by rank from 0 on
--     AreLoadsBehind                   the loads behind j blocks down each column
use Rattle.std.specs.Prelude.{◌≡◌, ℕ, ◌+◌, ◌*◌, ◌/◌, ◌%◌, ◌<◌, max, List, length, map, take, drop, slice_index}
use Rattle.std.specs.Prelude.{slice_set, get_or}
use Rattle.shop_lanes.specs.{Rows.{Lane, lanes, lanes_in, by_columns}, Spans.{span, FitOwnSpans}}
use Rattle.shop_lanes.specs.{declared.lane_rows.LaneRows.LaneRows, declared.owning.ColumnEnds.ColumnEnds}
use Rattle.shop_lanes.specs.inner.Passes.{clock_after, eight}

abbrev pub rank_of : ℕ → ℕ → ℕ
rank_of count p = p % 8 * count + p / 8

abbrev pub AreClocks : {B : Type 0} → (B → List ℕ) → ℕ → List Lane → ℕ → B → Type 0
AreClocks numbers count xs j clocks = numbers clocks ≡ eight (λ k. clock_after 1 0 (take (k * count + j) xs))

-- `end` is the greatest end behind rank r; any number up to the clock if nothing waits there
abbrev pub IsLoadBehind : List Lane → ℕ → ℕ → Type 0
IsLoadBehind xs r end = max (clock_after 1 0 (take r xs)) end ≡ clock_after 1 0 (take r xs) + span 1 0 (drop r xs)

pub record AreLoadsBehind {B : Type 0} (numbers : B → List ℕ) (count : ℕ) (xs : List Lane) (j : ℕ)
    (behind : B) : Type 0 where
  pub long : length (numbers behind) ≡ 8
  pub each : (k : ℕ) → k < 8 → IsLoadBehind xs (k * count + j) (get_or (numbers behind) k 0)

-- when the columns begin and end, and the greatest ends before and behind them
pub record AreEnds {B : Type 0} (numbers : B → List ℕ) (count : ℕ) (xs : List Lane) (ends : ColumnEnds B) : Type 0 where
  pub begins : AreClocks numbers count xs 0 ends.begins
  pub before : numbers ends.before ≡ eight (λ k. span 1 0 (take (k * count) xs))
  pub clocks : AreClocks numbers count xs count ends.clocks
  pub behind : AreLoadsBehind numbers count xs count ends.behind

-- each position has the load of the lanes before it in its column
abbrev pub AreNoted : {A : Type 0} → (A → ℕ) → LaneRows A → List A → Type 0
AreNoted value rows noted =
    let count = length rows.heads.now / 8
    in (p : ℕ) → p < length rows.heads.now → slice_index (map value noted) p
    ≡ span 1 0 (take (p / 8) (drop (p % 8 * count) (lanes_in value rows)))

-- the own span of index p of `count` blocks
abbrev pub own_span_at : ℕ → List ℕ → List ℕ → List ℕ → ℕ → ℕ
own_span_at count heads times tails p =
    let end = slice_index heads p + slice_index times p
    in max end (span 1 end (by_columns count (lanes (slice_set heads p 0) times tails)))

abbrev pub AreOwnSpansOf : {A : Type 0} → (A → ℕ) → LaneRows A → List A → Type 0
AreOwnSpansOf value rows owns =
    let row = map value
    in (p : ℕ) → p < length rows.heads.now → 0 < slice_index (row rows.heads.now) p → slice_index (row owns) p
    ≡ own_span_at (length rows.heads.now / 8) (row rows.heads.now) (row rows.times.now) (row rows.tails.now) p

pub record CanOwn {A : Type 0} (value : A → ℕ) (greatest : ℕ) (rows : LaneRows A) (owns : List A) : Type 0 where
  pub whole_blocks : length rows.heads.now % 8 ≡ 0
  pub room : length owns ≡ length rows.heads.now
  pub fits : FitOwnSpans greatest (lanes_in value rows)

pub record WritesOwnSpans {A : Type 0} (value : A → ℕ) (rows : LaneRows A) (old new : List A) : Type 0 where
  pub long : length new ≡ length old
  pub owns : AreOwnSpansOf value rows new
