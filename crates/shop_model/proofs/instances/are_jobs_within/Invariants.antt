use Rattle.std.proofs.Common.{ℕ, ◌<◌, slice_index_or}
use Rattle.shop_model.specs.{declared.ops.Job.Job, Limits.IsJobWithin}
use Rattle.shop_model.proofs.instances.are_jobs_within.Given as goal

abbrev pub invariant-loop-job : goal.invariant-loop-job
invariant-loop-job l = (k : ℕ) (d : Job) → k < l.job-index → IsJobWithin l.machines (slice_index_or l.jobs k d)
