-- The limits of the code, in numbers, and that accepted texts keep them.
--     AreLimits           of instances, schedules and texts, of plans and rounds, of workers, and of Gantt texts
--     TextsKeepTheLimits  each instance of a good text is within the limits
use Rattle.std.specs.{Prelude.{◌≡◌, ℕ, List}, List.AllByRecursion}
use Rattle.shop_model.specs.Limits.{IsWithinLimits}
use Rattle.shop_model.specs.declared.limits.TheConstants.{MAX_JOBS, MAX_MACHINES, MAX_STEPS, MAX_TIME, MAX_START}
use Rattle.shop_text.specs.{Formats.grammar_of, Texts.{NamedShop, IsText}, declared.formats.Format.Format}
use Rattle.shop_text.specs.declared.limits.TheConstants.{MAX_COLUMNS, MAX_TEXT}
use Rattle.shop_runs.specs.declared.plans.TheConstants.{MAX_ROUNDS, MAX_BUDGET, MAX_PIECE, MAX_PIECES, MAX_WORKERS}

pub record AreLimits : Type 0 where
  pub jobs : MAX_JOBS ≡ 1000
  pub machines : MAX_MACHINES ≡ 100
  pub steps : MAX_STEPS ≡ 100
  -- of a time of an operation, and of a release
  pub time : MAX_TIME ≡ 1000000000
  pub start : MAX_START ≡ 1000000000000000
  -- in bytes
  pub text : MAX_TEXT ≡ 16777216
  pub rounds : MAX_ROUNDS ≡ 100000
  pub budget : MAX_BUDGET ≡ 10000000
  pub piece : MAX_PIECE ≡ 1000
  pub pieces : MAX_PIECES ≡ 256
  pub workers : MAX_WORKERS ≡ 64
  -- of a Gantt text
  pub columns : MAX_COLUMNS ≡ 72

abbrev pub TextsKeepTheLimits : Type 0
TextsKeepTheLimits = (format : Format) (text : List ℕ) (shops : List NamedShop)
    → IsText (grammar_of format) text shops → AllByRecursion (λ n. IsWithinLimits n.shop) shops
