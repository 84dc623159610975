-- The job shop: instances, feasible tables of starts, their ends, and the least end (disjunctive model).
--     Shop, ShopJob           an instance: its machines and jobs; a job: release and route
--     Starts                  a table: a start for each operation (j, k), step k of job j
--     IsFeasible shop starts  the table keeps releases, routes and machines
--     IsLeast shop c          c is the end of a feasible table, and no feasible table ends before it
use Rattle.std.specs.Prelude.{◌≡◌, ℕ, zero, suc, ◌+◌, ◌≤◌, ◌<◌, max, ◌⊎◌, List, [], length, map, slice_index_or, sum_by}
use Rattle.std.specs.List.{range_with_len}
use Rattle.shop_model.specs.declared.ops.Op.{Op}

pub record ShopJob : Type 0 where
  pub release : ℕ
  pub route : List Op

pub record Shop : Type 0 where
  pub machines : ℕ
  pub jobs : List ShopJob

-- what stands outside the instance: a job without operations, and an operation that takes no time
abbrev pub no_job : ShopJob
no_job = record { release = 0; route = [] }

abbrev pub no_op : Op
no_op = record { machine = 0; time = 0 }

-- the release, the route and the steps of job j
abbrev pub release_of : Shop → ℕ → ℕ
release_of shop j = (slice_index_or shop.jobs j no_job).release

abbrev pub route_of : Shop → ℕ → List Op
route_of shop j = (slice_index_or shop.jobs j no_job).route

abbrev pub op_of : Shop → ℕ → ℕ → Op
op_of shop j k = slice_index_or (route_of shop j) k no_op

abbrev pub machine_of : Shop → ℕ → ℕ → ℕ
machine_of shop j k = (op_of shop j k).machine

abbrev pub time_of : Shop → ℕ → ℕ → ℕ
time_of shop j k = (op_of shop j k).time

-- the releases of the jobs, in order
abbrev pub releases_of : Shop → List ℕ
releases_of shop = map (release_of shop) (range_with_len 0 (length shop.jobs))

-- how many operations the instance has
abbrev pub operation_count : Shop → ℕ
operation_count shop = sum_by (λ job. length job.route) shop.jobs

-- (j, k) is an operation of the instance
abbrev pub IsOperation : Shop → ℕ → ℕ → Type 0
IsOperation shop j k = k < length (route_of shop j)

-- A table gives each operation a start. What it gives elsewhere is never looked at.
abbrev pub Starts : Type 0
Starts = ℕ → ℕ → ℕ

-- when (j, k) ends
abbrev pub finish_of : Shop → Starts → ℕ → ℕ → ℕ
finish_of shop starts j k = starts j k + time_of shop j k

pub record IsFeasible (shop : Shop) (starts : Starts) : Type 0 where
  -- no job begins before its release
  pub released : (j : ℕ) → IsOperation shop j 0 → release_of shop j ≤ starts j 0
  -- each step of a job ends not later than the next one begins
  pub in_order : (j k : ℕ) → IsOperation shop j (k + 1)
      → finish_of shop starts j k ≤ starts j (k + 1)
  -- of any two different operations of one machine one ends not later than the other begins
  pub apart : (j k i l : ℕ) → IsOperation shop j k → IsOperation shop i l
      → machine_of shop j k ≡ machine_of shop i l → ((j ≡ i) × (k ≡ l) → ⊥)
      → (finish_of shop starts j k ≤ starts i l) ⊎ (finish_of shop starts i l ≤ starts j k)

-- the greatest of f 0, .. f (n - 1), and 0 where n is 0
abbrev pub greatest_below : ℕ → (ℕ → ℕ) → ℕ
greatest_below zero f = 0
greatest_below (suc n) f = max (greatest_below n f) (f n)

-- the greatest end of an operation, and 0 where there is none
abbrev pub end_of : Shop → Starts → ℕ
end_of shop starts = greatest_below (length shop.jobs)
    (λ j. greatest_below (length (route_of shop j)) (λ k. finish_of shop starts j k))

pub record IsLeast (shop : Shop) (c : ℕ) : Type 0 where
  -- some feasible table ends at c
  pub table : Starts
  pub feasible : IsFeasible shop table
  pub ends : end_of shop table ≡ c
  -- and none ends before it
  pub least : (starts : Starts) → IsFeasible shop starts → c ≤ end_of shop starts
