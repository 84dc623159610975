-- What every bound reaches, to be counted by hand from the instance.
--     head_in_route, tail_in_route shop j k      the release and the times of the steps before it;
--                                                the times of the steps behind it
--     work_of shop m                             all times on machine m
--     BoundsReachTheFloor                        the law
use Rattle.std.specs.{Prelude.{◌≡◌, ℕ, ◌+◌, ◌≤◌, List, length, take, drop, filter, sum_by, ◌==◌}, List.range_with_len}
use Rattle.shop_model.specs.{Limits.IsWithinLimits, Shop.{Shop, route_of, release_of, machine_of, IsOperation}}
use Rattle.shop_model.specs.declared.ops.Op.{Op}
use Rattle.shop_runs.specs.{Round.Planned, Answers.{answer, bound_of}}

abbrev pub times_of : List Op → ℕ
times_of route = sum_by (λ o. o.time) route

abbrev pub head_in_route : Shop → ℕ → ℕ → ℕ
head_in_route shop j k = release_of shop j + times_of (take k (route_of shop j))

abbrev pub tail_in_route : Shop → ℕ → ℕ → ℕ
tail_in_route shop j k = times_of (drop (k + 1) (route_of shop j))

-- of a route, and of all jobs
abbrev pub work_in : ℕ → List Op → ℕ
work_in m route = times_of (filter (λ o. o.machine == m) route)

abbrev pub work_of : Shop → ℕ → ℕ
work_of shop m = sum_by (λ j. work_in m (route_of shop j)) (range_with_len 0 (length shop.jobs))

-- each operation of the machine has at least this head and this tail
pub record AreLeastOn (shop : Shop) (m head tail : ℕ) : Type 0 where
  pub heads : (j k : ℕ) → IsOperation shop j k → machine_of shop j k ≡ m → head ≤ head_in_route shop j k
  pub tails : (j k : ℕ) → IsOperation shop j k → machine_of shop j k ≡ m → tail ≤ tail_in_route shop j k

pub record BoundsReachTheFloor : Type 0 where
  -- of each machine that is needed
  pub machines : (shop : Shop) (plan : Planned) → IsWithinLimits shop → (j k m head tail : ℕ) → IsOperation shop j k
      → machine_of shop j k ≡ m → AreLeastOn shop m head tail
      → head + work_of shop m + tail ≤ bound_of shop (answer shop plan)
  -- of each job that has an operation
  pub jobs : (shop : Shop) (plan : Planned) → IsWithinLimits shop → (j : ℕ) → IsOperation shop j 0
      → release_of shop j + times_of (route_of shop j) ≤ bound_of shop (answer shop plan)
