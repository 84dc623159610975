-- Heads and ends of a state, with the times and tails of a layout.
--     rows_of l heads ends           the four rows together
--     lanes_on rows l m              the lanes of machine m
use Rattle.std.specs.Prelude.{ℕ, ◌+◌, List, slice_index}
use Rattle.shop_lanes.specs.Rows.{Rows, Lane, lanes_between}
use Rattle.shop_layout.specs.Positions.{LayoutState}

abbrev pub rows_of : LayoutState → List ℕ → List ℕ → Rows
rows_of l heads ends = record { heads = heads; times = l.times; tails = l.tails; ends = ends }

abbrev pub lanes_on : Rows → LayoutState → ℕ → List Lane
lanes_on rows l m = lanes_between rows (slice_index l.blocks m) (slice_index l.blocks (m + 1))
