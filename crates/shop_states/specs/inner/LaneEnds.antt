-- The ends of next operations in lanes.
--     end_at greatest nexts rows j       one more than when the next operation of job j can end from its head on, or
--                                        the greatest number where it has no step left
--     IsEndOf greatest nexts rows j      the end of job j in lanes is `end_at`
--     CanKeepEnds greatest l nexts rows  the end of each job can be set
use Rattle.std.specs.Prelude.{◌≡◌, ℕ, ◌+◌, ◌≤◌, ◌<◌, ◌^◌, List, length, slice_index, if◌then◌else◌, nat_lt}
use Rattle.shop_lanes.specs.Rows.{Rows}
use Rattle.shop_states.specs.inner.LaneChoices.{AreNextsOfJobs}
use Rattle.shop_layout.specs.Positions.{LayoutState}

abbrev pub end_at : ℕ → List ℕ → Rows → ℕ → ℕ
end_at greatest nexts rows j = if nat_lt (slice_index nexts j) (length rows.heads)
    then slice_index rows.heads (slice_index nexts j) + slice_index rows.times (slice_index nexts j) else greatest

abbrev pub IsEndOf : ℕ → List ℕ → Rows → ℕ → Type 0
IsEndOf greatest nexts rows j = slice_index rows.ends j ≡ end_at greatest nexts rows j

pub record CanKeepEnds (greatest : ℕ) (l : LayoutState) (nexts : List ℕ) (rows : Rows) : Type 0 where
  pub nexts_of_jobs : AreNextsOfJobs l rows.heads nexts
  pub within : (j : ℕ) → j < length nexts → slice_index nexts j ≤ length rows.heads
  pub timed : length l.times ≡ length rows.heads
  pub ends : length rows.ends ≡ length nexts
  pub fits : (j : ℕ) → j < length nexts → end_at greatest nexts rows j ≤ greatest
  pub computable : greatest < 2 ^ 64
