-- Words that share their jobs with others.
--     shared_word path n last      the first n jobs of a path, and one more, if any
--     CanBeShared w                w is no longer than the words of instances, and each of its jobs
--                                  is below the most jobs of an instance
use Rattle.std.specs.Prelude.{ℕ, ◌*◌, ◌≤◌, ◌<◌, Option, Some, None, List, ◌∷◌, ◌++◌, [], take, length, All}
use Rattle.shop_model.specs.declared.limits.TheConstants.{MAX_JOBS, MAX_STEPS}

abbrev pub shared_word : List ℕ → ℕ → Option ℕ → List ℕ
shared_word path n None = take n path
shared_word path n (Some job) = take n path ++ job ∷ []

pub record CanBeShared (w : List ℕ) : Type 0 where
  pub jobs : All (λ j. j < MAX_JOBS) w
  pub length : length w ≤ MAX_JOBS * MAX_STEPS
