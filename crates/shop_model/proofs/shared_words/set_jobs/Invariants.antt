use Rattle.std.{proofs.Common.{◌≡◌, ◌≤◌, take}, specs.Prelude.vec_capacity}
use Rattle.shop_model.proofs.shared_words.set_jobs.Given as goal

abbrev pub invariant-loop-job : goal.invariant-loop-job
invariant-loop-job l = record {
  so_far : l.list.items ≡ take l.job-index l.jobs;
  room : vec_capacity l.fn.list ≤ vec_capacity l.list;
}
