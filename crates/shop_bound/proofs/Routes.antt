-- The number of operations of all jobs before a job.
use Rattle.std.proofs.{Common.{◌≡◌, ℕ, ◌+◌, ◌≤◌, ◌<◌, length, take}, lemmas.List.Sums.{sum_by_more, sum_by-take-le}}
use Rattle.std.specs.List.{sum_by}
use Rattle.shop_model.specs.Shop.{Shop, no_job, route_of, operation_count}

abbrev pub operations_before : Shop → ℕ → ℕ
operations_before shop n = sum_by (λ job. length job.route) (take n shop.jobs)

pub before_more : (shop : Shop) (j : ℕ) → j < length shop.jobs
    → operations_before shop (j + 1) ≡ operations_before shop j + length (route_of shop j)
before_more shop j job = sum_by_more (λ job. length job.route) shop.jobs j no_job job

pub before_at_most : (shop : Shop) (j : ℕ) → operations_before shop j ≤ operation_count shop
before_at_most shop j = sum_by-take-le (λ job. length job.route) shop.jobs j
