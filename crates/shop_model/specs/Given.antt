-- The instance that a list of rows, or of jobs, gives.
use Rattle.std.specs.{Prelude.{ℕ, List, map, Vec}, declared.alloc.Global.Global}
use Rattle.shop_model.specs.{Shop.{Shop, ShopJob}, declared.ops.Op.Op, declared.ops.Job.Job}
use Rattle.shop_model.specs.{declared.instances.Given.Given, declared.instances.Given.TheVariants.{Rows, Jobs}}

-- a row of operations is a job that is released at 0
abbrev pub job_of_row : Vec Op Global → ShopJob
job_of_row row = record { release = 0; route = row.items }

abbrev pub job_as_given : Job → ShopJob
job_as_given job = record { release = job.release; route = job.route.items }

abbrev pub jobs_of : Given → List ShopJob
jobs_of (Rows rows) = map job_of_row rows.items
jobs_of (Jobs jobs) = map job_as_given jobs.items

-- the instance of either
abbrev pub shop_of_given : ℕ → Given → Shop
shop_of_given machines given = record { machines = machines; jobs = jobs_of given }

abbrev pub shop_of_rows : ℕ → List (Vec Op Global) → Shop
shop_of_rows machines rows = record { machines = machines; jobs = map job_of_row rows }

abbrev pub shop_of_jobs : ℕ → List Job → Shop
shop_of_jobs machines jobs = record { machines = machines; jobs = map job_as_given jobs }
