-- How late operations can end at most, whatever is placed, and what lanes must hold for it.
--     total_before shop n        the times of all operations of the first n jobs
--     latest_release shop        the greatest release
--     latest_end shop            no operation ends later
--     most_load times tails      the sum of times plus the greatest tail
--     FitsLanes greatest shop l  the latest end plus each machine's `most_load` is below the greatest number of a lane
use Rattle.std.specs.Prelude.{ℕ, zero, suc, ◌+◌, ◌<◌, List, length, slice_index, sum_by}
use Rattle.shop_lanes.specs.Rows.{blocks}
use Rattle.shop_model.specs.Shop.{Shop, route_of, release_of, greatest_below}
use Rattle.shop_bound.specs.OneMachine.{greatest_of}
use Rattle.shop_layout.specs.Positions.{LayoutState}

abbrev pub total_before : Shop → ℕ → ℕ
total_before shop zero = 0
total_before shop (suc n) = total_before shop n + sum_by (λ o. o.time) (route_of shop n)

abbrev pub latest_release : Shop → ℕ
latest_release shop = greatest_below (length shop.jobs) (release_of shop)

abbrev pub latest_end : Shop → ℕ
latest_end shop = latest_release shop + total_before shop (length shop.jobs)

abbrev pub most_load : List ℕ → List ℕ → ℕ
most_load times tails = sum_by (λ t. t) times + greatest_of (λ t. t) tails

-- the most that the load of machine m can be
abbrev pub most_load_on : LayoutState → ℕ → ℕ
most_load_on l m = most_load (blocks (slice_index l.blocks m) (slice_index l.blocks (m + 1)) l.times)
    (blocks (slice_index l.blocks m) (slice_index l.blocks (m + 1)) l.tails)

abbrev pub FitsLanes : ℕ → Shop → LayoutState → Type 0
FitsLanes greatest shop l = (m : ℕ) → m < shop.machines → latest_end shop + 1 + most_load_on l m < greatest
