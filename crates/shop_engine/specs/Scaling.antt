-- All times and releases k times as long.
--     scaled k shop              the instance in a unit of time that is k times finer
use Rattle.std.specs.Prelude.{ℕ, ◌*◌, ◌<◌, ◌↔◌, map}
use Rattle.shop_model.specs.{Shop.{Shop, ShopJob, IsLeast}, declared.ops.Op.Op}
use Rattle.shop_engine.specs.Headline.{IsBound}

abbrev pub scaled_op : ℕ → Op → Op
scaled_op k o = record { machine = o.machine; time = k * o.time }

abbrev pub scaled_job : ℕ → ShopJob → ShopJob
scaled_job k job = record { release = k * job.release; route = map (scaled_op k) job.route }

abbrev pub scaled : ℕ → Shop → Shop
scaled k shop = record { machines = shop.machines; jobs = map (scaled_job k) shop.jobs }

-- A table of the scaled instance may begin operations at each k-th of a unit, and yet none ends
-- before the least makespan.
pub record ScalingKeepsTheLeast : Type 0 where
  pub least : (k : ℕ) (shop : Shop) (c : ℕ) → 0 < k → IsLeast shop c ↔ IsLeast (scaled k shop) (k * c)
  pub bounds : (k : ℕ) (shop : Shop) (b : ℕ) → 0 < k → IsBound shop b ↔ IsBound (scaled k shop) (k * b)
