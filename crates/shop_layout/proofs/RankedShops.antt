-- An instance whose machines are called by their ranks differs from it in their numbers alone.
use Rattle.std.proofs.Common.{◌≡◌, ℕ, zero, suc, ◌≤◌, ◌<◌, List, [], ◌∷◌, length, map, get_or, refl, ◌∙◌, ap, arith}
use Rattle.std.proofs.lemmas.{Bool.cases_lt, List.{drop-map, get_or-map, get_or_past, length-map, Sums.sum_by-cons}}
use Rattle.std.specs.List.{sum_by}
use Rattle.shop_model.specs.{declared.ops.Op.Op, Limits.IsWithinLimits}
use Rattle.shop_model.specs.Shop.{Shop, ShopJob, IsOperation, greatest_below, machine_of, no_job, no_op}
use Rattle.shop_model.specs.Shop.{release_of, route_of, time_of}
use Rattle.shop_bound.specs.{Heads.tail_in, Renumbered.IsRenumbered}
use Rattle.shop_layout.specs.{HeadLimits.{latest_end, total_before}, Ranks.{AreRanks, ranked, ranked_job, ranked_op}}

get_or_mapped : {A B : Type 0} (f : A → B) (xs : List A) (i : ℕ) (d : A)
    → get_or (map f xs) i (f d) ≡ f (get_or xs i d)
get_or_mapped f [] i d = refl
get_or_mapped f (x ∷ xs) zero d = refl
get_or_mapped f (x ∷ xs) (suc i) d = get_or_mapped f xs i d

sum_mapped : {A B : Type 0} (f : A → B) (g : B → ℕ) (h : A → ℕ) → ((x : A) → g (f x) ≡ h x) → (xs : List A)
    → sum_by g (map f xs) ≡ sum_by h xs
sum_mapped f g h e [] = refl
sum_mapped f g h e (x ∷ xs) = grind (arith, sum_by-cons, sum_mapped f g h e xs)

module _ (ranks : List ℕ) where
  pub times_ranked : (route : List Op)
      → sum_by (λ (o : Op). o.time) (map (ranked_op ranks) route) ≡ sum_by (λ (o : Op). o.time) route
  times_ranked route = sum_mapped (ranked_op ranks) (λ (o : Op). o.time) (λ (o : Op). o.time) (λ o. refl) route

  pub tail_ranked : (route : List Op) (k : ℕ) → tail_in (map (ranked_op ranks) route) k ≡ tail_in route k
  tail_ranked route k = grind (arith, drop-map, times_ranked)

  pub op_ranked : (route : List Op) (k : ℕ) → k < length route
      → get_or (map (ranked_op ranks) route) k no_op ≡ ranked_op ranks (get_or route k no_op)
  op_ranked route k here = get_or-map (ranked_op ranks) route k no_op no_op here

module _ (ranks : List ℕ) (shop : Shop) where
  job_ranked : (j : ℕ)
      → get_or (map (ranked_job ranks) shop.jobs) j no_job ≡ ranked_job ranks (get_or shop.jobs j no_job)
  job_ranked j = get_or_mapped (ranked_job ranks) shop.jobs j no_job

  pub route_ranked : (j : ℕ) → route_of (ranked ranks shop) j ≡ map (ranked_op ranks) (route_of shop j)
  route_ranked j = ap (λ (job : ShopJob). job.route) (job_ranked j)

  pub release_ranked : (j : ℕ) → release_of (ranked ranks shop) j ≡ release_of shop j
  release_ranked j = ap (λ (job : ShopJob). job.release) (job_ranked j)

  pub jobs_ranked : length (ranked ranks shop).jobs ≡ length shop.jobs
  jobs_ranked = length-map shop.jobs (ranked_job ranks)

  pub steps_ranked : (j : ℕ) → length (route_of (ranked ranks shop) j) ≡ length (route_of shop j)
  steps_ranked j = ap length (route_ranked j) ∙ length-map (route_of shop j) (ranked_op ranks)

  step_ranked : (j k : ℕ) → IsOperation shop j k
      → get_or (route_of (ranked ranks shop) j) k no_op ≡ ranked_op ranks (get_or (route_of shop j) k no_op)
  step_ranked j k op = grind (arith, route_ranked, op_ranked)

  step_past : (j k : ℕ) → length (route_of shop j) ≤ k → get_or (route_of (ranked ranks shop) j) k no_op ≡ no_op
  step_past j k past = grind (arith, steps_ranked, get_or_past)

  pub machine_ranked : (j k : ℕ) → IsOperation shop j k
      → machine_of (ranked ranks shop) j k ≡ get_or ranks (machine_of shop j k) 0
  machine_ranked j k op = ap (λ (o : Op). o.machine) (step_ranked j k op)

  pub time_ranked : (j k : ℕ) → time_of (ranked ranks shop) j k ≡ time_of shop j k
  time_ranked j k = grind (arith, cases_lt, step_ranked, step_past, get_or_past)

  -- the same latest end
  total_ranked : (n : ℕ) → total_before (ranked ranks shop) n ≡ total_before shop n
  total_ranked zero = refl
  total_ranked (suc n) = grind (arith, route_ranked, times_ranked, total_ranked n)

  greatest_ranked : (n : ℕ) → greatest_below n (release_of (ranked ranks shop)) ≡ greatest_below n (release_of shop)
  greatest_ranked zero = refl
  greatest_ranked (suc n) = let a = greatest_ranked n in let b = release_ranked n in omega arith

  pub latest_end_ranked : latest_end (ranked ranks shop) ≡ latest_end shop
  latest_end_ranked = grind (arith, jobs_ranked, greatest_ranked, total_ranked)

  module _ (limits : IsWithinLimits shop) (are : AreRanks shop.machines ranks) where
    machine_within : (j k : ℕ) → machine_of (ranked ranks shop) j k < shop.machines
    machine_within j k = grind (arith, cases_lt, machine_ranked, step_past)

    pub limits_ranked : IsWithinLimits (ranked ranks shop)
    limits_ranked = grind (arith, jobs_ranked, release_ranked, steps_ranked, machine_within, time_ranked)

    pub is_renumbered : IsRenumbered shop (ranked ranks shop)
    is_renumbered = grind (arith, jobs_ranked, release_ranked, steps_ranked, time_ranked, machine_ranked)
