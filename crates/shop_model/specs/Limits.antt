-- The limits of an instance and of a table.
use Rattle.std.specs.Prelude.{◌≡◌, ℕ, ◌≤◌, ◌<◌, List, [], length, slice_index_or, All, Vec}
use Rattle.std.specs.declared.alloc.Global.{Global}
use Rattle.shop_model.specs.declared.limits.TheConstants.{MAX_JOBS, MAX_MACHINES, MAX_STEPS, MAX_TIME, MAX_START}
use Rattle.shop_model.specs.{declared.ops.Op.Op, declared.ops.Job.Job}
use Rattle.shop_model.specs.Shop.{Shop, route_of, release_of, machine_of, time_of}

-- (what stands outside the instance has machine 0, time 0 and release 0)
pub record IsWithinLimits (shop : Shop) : Type 0 where
  pub some_machine : 1 ≤ shop.machines
  pub machines : shop.machines ≤ MAX_MACHINES
  pub some_job : 1 ≤ length shop.jobs
  pub jobs : length shop.jobs ≤ MAX_JOBS
  pub releases : (j : ℕ) → release_of shop j ≤ MAX_TIME
  pub routes : (j : ℕ) → length (route_of shop j) ≤ MAX_STEPS
  pub on_machines : (j k : ℕ) → machine_of shop j k < shop.machines
  pub times : (j k : ℕ) → time_of shop j k ≤ MAX_TIME

-- no start is above its limit
abbrev pub AreStarts : List (List ℕ) → Type 0
AreStarts rows = (j k : ℕ) → slice_index_or (slice_index_or rows j []) k 0 ≤ MAX_START

-- each operation is on one of the machines, and takes no longer than the limit
abbrev pub IsRouteWithin : ℕ → List Op → Type 0
IsRouteWithin machines route = All (λ o. (o.machine < machines) × (o.time ≤ MAX_TIME)) route

-- what an instance may be given as rows: each row is as long as there are machines
pub record AreRowsWithin (machines : ℕ) (rows : List (Vec Op Global)) : Type 0 where
  pub some_machine : 1 ≤ machines
  pub few_machines : machines ≤ MAX_MACHINES
  pub some_row : 1 ≤ length rows
  pub few_rows : length rows ≤ MAX_JOBS
  pub lengths : All (λ row. length row.items ≡ machines) rows
  pub operations : All (λ row. IsRouteWithin machines row.items) rows

-- a job is released within the limit, has as many operations as the limit allows at most, and they
-- are on the machines and within the limit
pub record IsJobWithin (machines : ℕ) (job : Job) : Type 0 where
  pub release : job.release ≤ MAX_TIME
  pub steps : length job.route.items ≤ MAX_STEPS
  pub operations : IsRouteWithin machines job.route.items

-- what an instance may be given as jobs: routes of any length up to the limit, 0 too
pub record AreJobsWithin (machines : ℕ) (jobs : List Job) : Type 0 where
  pub some_machine : 1 ≤ machines
  pub few_machines : machines ≤ MAX_MACHINES
  pub some_job : 1 ≤ length jobs
  pub few_jobs : length jobs ≤ MAX_JOBS
  pub each : All (IsJobWithin machines) jobs
