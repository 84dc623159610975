-- A dispatch of an operation, and what its end delays.
--     marked_up_to l m               the block behind the first eight of machine m, or behind its last
--     AreDelayedOn l m end ..        the positions in these blocks where something waits with a head
--                                    below the end
--     IsDispatchOf l heads nexts d   the operation is the next one of its job; its machine, its end,
--                                    and what else is delayed
use Rattle.std.specs.Prelude.{◌≡◌, ℕ, ◌+◌, min, List, slice_index, slice_set}
use Rattle.shop_lanes.specs.Marks.{positions_among}
use Rattle.shop_layout.specs.Positions.{LayoutState}
use Rattle.shop_states.specs.declared.dispatches.Dispatch.{Dispatch}

abbrev pub marked_up_to : LayoutState → ℕ → ℕ
marked_up_to l m = min (slice_index l.blocks m + 8) (slice_index l.blocks (m + 1))

abbrev pub AreDelayedOn : LayoutState → ℕ → ℕ → List ℕ → List ℕ → Type 0
AreDelayedOn l m end heads marks =
    marks ≡ positions_among heads (slice_index l.blocks m) (marked_up_to l m) end

-- the operation itself waits no longer
pub record IsDispatchOf (l : LayoutState) (heads nexts : List ℕ) (d : Dispatch) : Type 0 where
  pub position_is : d.position ≡ slice_index nexts d.job
  pub machine_is : d.machine ≡ slice_index l.machines d.position
  pub end_is : d.end ≡ slice_index heads d.position + slice_index l.times d.position
  pub delayed_are : AreDelayedOn l d.machine d.end (slice_set heads d.position 0) d.delayed
