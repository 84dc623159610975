-- Instances that were given as rows, or as jobs.
use Rattle.std.proofs.Common.{rules, ◌≡◌, ℕ, zero, suc, ◌≤◌, ◌<◌, List, [], ◌∷◌, map, length, slice_index_or, refl}
use Rattle.std.proofs.{Common.arith, lemmas.{Bool.cases_lt, List.{get_or_past, length-map}}}
use Rattle.std.{proofs.lemmas.List.Elements.recursion_from_All, specs.{List.AllByRecursion, Prelude.Vec}}
use Rattle.std.specs.declared.alloc.Global.{Global}
use Rattle.shop_model.specs.Limits.{IsWithinLimits, IsRouteWithin, IsJobWithin, AreRowsWithin, AreJobsWithin}
use Rattle.shop_model.specs.{declared.ops.{Op.Op, Job.Job}, Shop.{Shop, ShopJob, no_job, no_op}, Given.job_of_row}
use Rattle.shop_model.specs.Given.{job_as_given, shop_of_rows, shop_of_jobs}

-- each is released at 0
pub release_of-rows : (rows : List (Vec Op Global)) (j : ℕ)
    → (slice_index_or (map job_of_row rows) j no_job).release ≡ 0
release_of-rows [] j = refl
release_of-rows (r ∷ rs) zero = refl
release_of-rows (r ∷ rs) (suc j) = release_of-rows rs j

-- what the limits say of a job
record KeepsLimits (machines : ℕ) (job : ShopJob) : Type 0 where
  release : job.release ≤ 1000000000
  route : length job.route ≤ 100
  machine : (k : ℕ) → (slice_index_or job.route k no_op).machine < machines
  time : (k : ℕ) → (slice_index_or job.route k no_op).time ≤ 1000000000

op_within : (machines : ℕ) (route : List Op) → 1 ≤ machines → IsRouteWithin machines route → (k : ℕ)
    → ((slice_index_or route k no_op).machine < machines) × ((slice_index_or route k no_op).time ≤ 1000000000)
op_within machines route some h k = grind (arith, cases_lt, route, get_or_past)

no_job_within : (machines : ℕ) → 1 ≤ machines → KeepsLimits machines no_job
no_job_within machines some = grind arith

-- a row as long as there are machines, and a job
row_within : (machines : ℕ) (row : Vec Op Global) → 1 ≤ machines → machines ≤ 100 → length row.items ≡ machines
    → IsRouteWithin machines row.items → KeepsLimits machines (job_of_row row)
row_within machines row some few n h = record {
  release = omega arith;
  route = omega arith;
  machine = λ k. (op_within machines row.items some h k).0;
  time = λ k. (op_within machines row.items some h k).1;
}

job_within : (machines : ℕ) (job : Job) → 1 ≤ machines → IsJobWithin machines job
    → KeepsLimits machines (job_as_given job)
job_within machines job some h = record {
  release = h.release;
  route = h.steps;
  machine = λ k. (op_within machines job.route.items some h.operations k).0;
  time = λ k. (op_within machines job.route.items some h.operations k).1;
}

-- so for each of a list
rows_keep : (machines : ℕ) → 1 ≤ machines → machines ≤ 100 → (rows : List (Vec Op Global))
    → AllByRecursion (λ row. length row.items ≡ machines) rows
    → AllByRecursion (λ row. IsRouteWithin machines row.items) rows
    → (j : ℕ) → KeepsLimits machines (slice_index_or (map job_of_row rows) j no_job)
rows_keep machines some few [] n h j = no_job_within machines some
rows_keep machines some few (r ∷ rs) n h zero = row_within machines r some few n.0 h.0
rows_keep machines some few (r ∷ rs) n h (suc j) = rows_keep machines some few rs n.1 h.1 j

jobs_keep : (machines : ℕ) → 1 ≤ machines → (jobs : List Job) → AllByRecursion (IsJobWithin machines) jobs
    → (j : ℕ) → KeepsLimits machines (slice_index_or (map job_as_given jobs) j no_job)
jobs_keep machines some [] h j = no_job_within machines some
jobs_keep machines some (x ∷ xs) h zero = job_within machines x some h.0
jobs_keep machines some (x ∷ xs) h (suc j) = jobs_keep machines some xs h.1 j

-- and so the instance is within the limits
from_each : (shop : Shop) → 1 ≤ shop.machines → shop.machines ≤ 100 → 1 ≤ length shop.jobs → length shop.jobs ≤ 1000
    → ((j : ℕ) → KeepsLimits shop.machines (slice_index_or shop.jobs j no_job)) → IsWithinLimits shop
from_each shop some few some_job few_jobs each = grind arith

-- rows within the limits give an instance within the limits
pub rows_within : (machines : ℕ) (rows : List (Vec Op Global)) → AreRowsWithin machines rows
    → IsWithinLimits (shop_of_rows machines rows)
rows_within machines rows a = search (rules, length-map, from_each, rows_keep, recursion_from_All)

-- and so do jobs
pub jobs_within : (machines : ℕ) (jobs : List Job) → AreJobsWithin machines jobs
    → IsWithinLimits (shop_of_jobs machines jobs)
jobs_within machines jobs a = search (rules, length-map, from_each, jobs_keep, recursion_from_All)
