-- Instances that ask for less.
--     IsRelaxation easy hard       the easy instance asks for a part of what the hard one asks for
--     RelaxationsAskNoMore         the law
use Rattle.std.specs.Prelude.{◌≡◌, ℕ, ◌+◌, ◌≤◌, ◌<◌, List, ◌∷◌, ◌++◌}
use Rattle.shop_model.specs.{declared.ops.Op.Op, Shop.{Shop, ShopJob, release_of, machine_of, time_of, IsOperation}}
use Rattle.shop_engine.specs.Easier.{AsksNoMore}

-- Step k of job j stands for step `step j k` of job `job j`: no two for one, and those of a job in
-- their order. Times may be shorter, releases earlier, and what needs one machine may need two.
pub record IsRelaxation (easy hard : Shop) : Type 0 where
  pub job : ℕ → ℕ
  pub step : ℕ → ℕ → ℕ
  pub operations : (j k : ℕ) → IsOperation easy j k → IsOperation hard (job j) (step j k)
  pub in_order : (j k : ℕ) → IsOperation easy j (k + 1) → step j k < step j (k + 1)
  pub different : (j k i l : ℕ) → IsOperation easy j k → IsOperation easy i l
      → ((j ≡ i) × (k ≡ l) → ⊥) → (job j ≡ job i) × (step j k ≡ step i l) → ⊥
  pub times : (j k : ℕ) → IsOperation easy j k → time_of easy j k ≤ time_of hard (job j) (step j k)
  pub releases : (j : ℕ) → IsOperation easy j 0 → release_of easy j ≤ release_of hard (job j)
  pub machines : (j k i l : ℕ) → IsOperation easy j k → IsOperation easy i l → machine_of easy j k ≡ machine_of easy i l
      → machine_of hard (job j) (step j k) ≡ machine_of hard (job i) (step i l)

abbrev pub shop_with : ℕ → List ShopJob → Shop
shop_with machines jobs = record { machines = machines; jobs = jobs }

abbrev pub job_with : ℕ → List Op → ShopJob
job_with release route = record { release = release; route = route }

pub record RelaxationsAskNoMore : Type 0 where
  pub relaxed : (easy hard : Shop) → IsRelaxation easy hard → AsksNoMore easy hard
  -- any job may be left out, and any step of any job
  pub job_left_out : (machines : ℕ) (front back : List ShopJob) (job : ShopJob)
      → IsRelaxation (shop_with machines (front ++ back)) (shop_with machines (front ++ job ∷ back))
  pub step_left_out : (machines release : ℕ) (front back : List ShopJob) (before after : List Op)
      → (op : Op)
      → IsRelaxation (shop_with machines (front ++ job_with release (before ++ after) ∷ back))
      (shop_with machines (front ++ job_with release (before ++ op ∷ after) ∷ back))
