-- Routes in reverse.
--     reversed shop              each route from its end to its beginning
--     ReversingAsksTheSame       the law
use Rattle.std.specs.Prelude.{◌≡◌, ℕ, map, reverse}
use Rattle.shop_model.specs.Shop.{Shop, ShopJob, release_of}
use Rattle.shop_engine.specs.Easier.{AskTheSame}

abbrev pub reversed_job : ShopJob → ShopJob
reversed_job job = record { release = job.release; route = reverse job.route }

abbrev pub reversed : Shop → Shop
reversed shop = record { machines = shop.machines; jobs = map reversed_job shop.jobs }

-- of an instance without releases
abbrev pub ReversingAsksTheSame : Type 0
ReversingAsksTheSame = (shop : Shop) → ((j : ℕ) → release_of shop j ≡ 0) → AskTheSame shop (reversed shop)
