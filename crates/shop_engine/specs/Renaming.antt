-- Instances that differ in the names of machines or in the order of jobs alone.
--     renamed_machines f shop      machine m under the name f m
--     RenamingAsksTheSame          the law
use Rattle.std.specs.{Prelude.{◌≡◌, ℕ, List, map}, List.Sorted.IsPermutation}
use Rattle.shop_model.specs.{declared.ops.Op.Op, Shop.{Shop, ShopJob}}
use Rattle.shop_engine.specs.Easier.{AskTheSame}

abbrev pub renamed_op : (ℕ → ℕ) → Op → Op
renamed_op f o = record { machine = f o.machine; time = o.time }

abbrev pub renamed_job : (ℕ → ℕ) → ShopJob → ShopJob
renamed_job f job = record { release = job.release; route = map (renamed_op f) job.route }

abbrev pub renamed_machines : (ℕ → ℕ) → Shop → Shop
renamed_machines f shop = record { machines = shop.machines; jobs = map (renamed_job f) shop.jobs }

pub record RenamingAsksTheSame : Type 0 where
  -- machines may have any other names, as long as no two have one
  pub machines : (f : ℕ → ℕ) → ((m n : ℕ) → f m ≡ f n → m ≡ n) → (shop : Shop)
      → AskTheSame shop (renamed_machines f shop)
  -- and jobs may stand in any order
  pub jobs : (machines : ℕ) (jobs others : List ShopJob) → IsPermutation jobs others
      → AskTheSame (record { machines = machines; jobs = jobs }) (record { machines = machines; jobs = others })
