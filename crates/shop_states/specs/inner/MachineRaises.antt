-- The raises of machines, and a list of the machines that have one.
--     AreEmpty raises                no head rose on any machine
--     AreListed raises machines      the machines with a raise are in a list
--     AreRaisesFit greatest ..       each machine has its blocks, and a span from its raise fits
--     CanBoundRows value greatest .. spans of `each` blocks, if that is known, from within a raise on
--                                    fit into lanes
--     IsSpanByRaise ..               the greater of a number and of the spans from within a raise on
--     CanTakeSpans greatest ..       the spans from within these raises on fit into lanes
--     CanTakeSpansUnder ..           so they do, and those of a machine with a ceiling are no more than that, or than
--                                    `least`
--     TakesSpans ..                  the greatest of a number and of these spans; the raises are empty
--                                    afterwards
use Rattle.std.specs.Prelude.{◌≡◌, ℕ, ◌+◌, ◌*◌, ◌%◌, ◌≤◌, ◌<◌, List, length, slice_index}
use Rattle.shop_lanes.specs.{Rows.{Rows, Lane, AreBlocks, lanes_in}, Spans.{spans_between, FitsSpan}}
use Rattle.shop_lanes.specs.declared.lane_rows.LaneRows.{LaneRows}
use Rattle.shop_states.specs.{declared.lane_raises.LaneRaise.LaneRaise, inner.{Ceilings.AreUnder, RisingLists.IsIn}}
use Rattle.shop_states.specs.inner.LaneRaises.{Raise, raise_of}
use Rattle.shop_layout.specs.{Lanes.lanes_on, Positions.LayoutState}

abbrev pub AreEmpty : List Raise → Type 0
AreEmpty raises = (m : ℕ) → (raise_of raises m).to ≡ 0

-- of at most 128 machines
pub record AreListed (raises : List Raise) (machines : List ℕ) : Type 0 where
  pub few : length raises ≤ 128
  pub known : (m : ℕ) → IsIn machines m → m < length raises
  pub listed : (m : ℕ) → 0 < (raise_of raises m).to → IsIn machines m

pub record AreRaisesFit (greatest : ℕ) (raises : List Raise) (l : LayoutState) (rows : Rows) : Type 0 where
  pub known : length l.blocks ≡ length raises + 1
  pub blocks : (m : ℕ) → m < length raises → AreBlocks rows (slice_index l.blocks m) (slice_index l.blocks (m + 1))
  pub below : (m : ℕ) → m < length raises → (raise_of raises m).to < greatest
  pub fits : (m : ℕ) → m < length raises → FitsSpan greatest (raise_of raises m).to (lanes_on rows l m)

pub record CanBoundRows {N : Type 0} (value : N → ℕ) (greatest each : ℕ) (rows : LaneRows N)
    (raise : LaneRaise N) : Type 0 where
  pub whole_blocks : length rows.heads.now % 8 ≡ 0
  pub count : 0 < each → length rows.heads.now ≡ 8 * each
  pub below : value raise.to < greatest
  pub fits : FitsSpan greatest (value raise.to) (lanes_in value rows)

-- r is at least `least`, and no more than that and the spans of these lanes; if it is below the
-- limit, no span that begins within the raise is more
pub record IsSpanByRaise (raise : Raise) (xs : List Lane) (limit least r : ℕ) : Type 0 where
  pub low : least ≤ r
  pub covers : r < limit → spans_between raise.from raise.to xs ≤ r
  pub within : (c : ℕ) → least ≤ c → ((above upto : ℕ) → spans_between above upto xs ≤ c) → r ≤ c

pub record CanTakeSpans (greatest : ℕ) (raises : List Raise) (raised : List ℕ) (l : LayoutState)
    (rows : Rows) : Type 0 where
  pub listed : AreListed raises raised
  pub times : length l.times ≡ length rows.heads
  pub tails : length l.tails ≡ length l.times
  pub fits : AreRaisesFit greatest raises l rows

pub record CanTakeSpansUnder (greatest : ℕ) (ceilings : List ℕ) (raises : List Raise) (raised : List ℕ)
    (l : LayoutState) (rows : Rows) (least : ℕ) : Type 0 where
  pub can : CanTakeSpans greatest raises raised l rows
  pub under : AreUnder ceilings raises l rows least

-- b is at least `least`, and no more than that and the spans of these machines; if it is below the
-- limit, no span that begins within a raise is more
pub record TakesSpans (l : LayoutState) (rows : Rows) (old new : List Raise) (least limit b : ℕ) : Type 0 where
  pub empty : AreEmpty new
  pub long : length new ≡ length old
  pub low : least ≤ b
  pub covers : b < limit → (m : ℕ) → spans_between (raise_of old m).from (raise_of old m).to (lanes_on rows l m) ≤ b
  pub within : (c : ℕ) → least ≤ c → ((m above upto : ℕ) → m < length old
      → spans_between above upto (lanes_on rows l m) ≤ c) → b ≤ c
