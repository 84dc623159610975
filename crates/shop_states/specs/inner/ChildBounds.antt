-- The bound after one more operation, by heads in lanes.
--     IsNextAt shop w l job ..       position, machine and end of the next operation of the job
--     IsLeastAfter .. least          at most the bound after it, and at least the bound before, its
--                                    end and what else waits on its machine
use Rattle.std.specs.Prelude.{◌≡◌, ℕ, ◌+◌, ◌≤◌, List, [], ◌∷◌, ◌++◌}
use Rattle.shop_lanes.specs.{Rows.{Rows, with_head}, Spans.span}
use Rattle.shop_model.specs.{Shop.{Shop, machine_of}, Word.{place_next, placing}}
use Rattle.shop_bound.specs.Bound.{lb}
use Rattle.shop_layout.specs.{Lanes.lanes_on, Positions.{LayoutState, position_of}}

-- the end is one higher, as heads in lanes are
pub record IsNextAt (shop : Shop) (w : List ℕ) (l : LayoutState) (job position machine end : ℕ) : Type 0 where
  pub position_is : position ≡ position_of l job ((placing shop w).steps job)
  pub machine_is : machine ≡ machine_of shop job ((placing shop w).steps job)
  pub end_is : end ≡ (place_next shop (placing shop w) job).free (machine_of shop job ((placing shop w).steps job)) + 1

-- of what else waits, the span from this end on
pub record IsLeastAfter (shop : Shop) (w : List ℕ) (l : LayoutState) (rows : Rows)
    (job position machine end least : ℕ) : Type 0 where
  pub next : IsNextAt shop w l job position machine end
  pub parent : lb shop w ≤ least
  pub ends : end ≤ least + 1
  pub ahead : span 1 end (lanes_on (with_head rows position 0) l machine) ≤ least + 1
  pub most : least ≤ lb shop (w ++ job ∷ [])
