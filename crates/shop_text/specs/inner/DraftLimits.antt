-- What the draft of a part keeps: its size, and how much of it there is so far.
use Rattle.std.specs.{Prelude.{◌≡◌, ℕ, ◌≤◌, ◌<◌, List, length, All, Vec}, declared.alloc.Global.Global}
use Rattle.shop_model.specs.{declared.limits.TheConstants.{MAX_JOBS, MAX_MACHINES, MAX_TIME}, Limits.IsJobWithin}
use Rattle.shop_model.specs.declared.ops.Job.{Job}

-- a row of times, one for each machine
pub record IsTimesRow (machines : ℕ) (row : Vec ℕ Global) : Type 0 where
  pub len : length row.items ≡ machines
  pub times : All (λ time. time ≤ MAX_TIME) row.items

-- a draft without size has nothing; one with a size has fewer jobs than that, and what it has is within the limits
pub record IsDraftWithin (jobs_wanted machines : ℕ) (times : List (Vec ℕ Global)) (jobs : List Job) : Type 0 where
  pub few_jobs : jobs_wanted ≤ MAX_JOBS
  pub few_machines : machines ≤ MAX_MACHINES
  pub some_machine : 0 < jobs_wanted → 1 ≤ machines
  pub room : 0 < jobs_wanted → length jobs < jobs_wanted
  pub no_times : jobs_wanted ≡ 0 → length times ≡ 0
  pub no_jobs : jobs_wanted ≡ 0 → length jobs ≡ 0
  pub each_times : All (IsTimesRow machines) times
  pub each_job : All (IsJobWithin machines) jobs
