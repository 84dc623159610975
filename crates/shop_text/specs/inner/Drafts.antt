-- What a draft holds of the number lines that a part has so far.
use Rattle.std.specs.Prelude.{◌≡◌, ℕ, ◌≤◌, ◌<◌, Bool, false, true, nat_lt, List, [], ◌∷◌, ◌++◌, length, map, take}
use Rattle.std.specs.{Prelude.{Option, Some, None, Result, Ok, Err, Vec}, declared.alloc.Global.Global}
use Rattle.shop_model.specs.{declared.ops.Job.Job, Shop.{Shop, ShopJob}, Given.{job_as_given, shop_of_jobs}}
use Rattle.shop_text.specs.{Grammar.Row, Formats.{grammar_of, jobs_in, machines_in}}
use Rattle.shop_text.specs.{inner.LineReading.Fails, declared.instance_drafts.Draft.Draft}
use Rattle.shop_text.specs.{declared.faults.ReadFault.ReadFault, declared.faults.ReadFault.TheVariants.NoMemory}
use Rattle.shop_text.specs.declared.formats.Format.{Format}
use Rattle.shop_text.specs.declared.formats.Format.TheVariants.{Orlib, Taillard, Routes}

abbrev pub items_of : Vec ℕ Global → List ℕ
items_of row = row.items

-- in `taillard` the rows of times are kept
abbrev pub HoldsTimes : Format → Draft → Row → List Row → Type 0
HoldsTimes Orlib draft size rows = Unit {0}
HoldsTimes Routes draft size rows = Unit {0}
HoldsTimes Taillard draft size rows = map items_of draft.times.items ≡ take (jobs_in size) rows

-- the jobs of an instance that these number lines give
abbrev pub jobs_drafted : Format → List Row → List ShopJob
jobs_drafted p rows = ((grammar_of p).shop rows).jobs

-- what the size line says, and the jobs of the rows behind it
pub record HoldsRows (p : Format) (draft : Draft) (size : Row) (rows : List Row) : Type 0 where
  pub some_job : 1 ≤ draft.jobs_wanted
  pub wanted : draft.jobs_wanted ≡ jobs_in size
  pub machines : draft.machines ≡ machines_in size
  pub times : HoldsTimes p draft size rows
  pub jobs : map job_as_given draft.jobs.items ≡ jobs_drafted p (size ∷ rows)

abbrev pub IsDraft : Format → Draft → List Row → Type 0
IsDraft p draft [] = draft.jobs_wanted ≡ 0
IsDraft p draft (size ∷ rows) = HoldsRows p draft size rows

-- whether the next row is one of times
abbrev pub wants_times : Format → ℕ → ℕ → Bool
wants_times Orlib jobs_wanted times = false
wants_times Routes jobs_wanted times = false
wants_times Taillard jobs_wanted times = nat_lt times jobs_wanted

-- a job was added, and some are still to come
pub record IsPushed (old new : Draft) (job : Job) : Type 0 where
  pub jobs : new.jobs.items ≡ old.jobs.items ++ job ∷ []
  pub wanted : new.jobs_wanted ≡ old.jobs_wanted
  pub machines : new.machines ≡ old.machines
  pub times : new.times ≡ old.times
  pub room : length (old.jobs.items ++ job ∷ []) < old.jobs_wanted

-- a job was added, it was the last, and the instance is these jobs
pub record IsFinished (old new : Draft) (job : Job) (shop : Shop) : Type 0 where
  pub shop_is : shop ≡ shop_of_jobs old.machines (old.jobs.items ++ job ∷ [])
  pub full : length (old.jobs.items ++ job ∷ []) ≡ old.jobs_wanted
  pub fresh : new.jobs_wanted ≡ 0

abbrev pub PushesJob : Draft → Draft → Job → Result (Option Shop) ReadFault → Type 0
PushesJob old new job (Ok None) = IsPushed old new job
PushesJob old new job (Ok (Some shop)) = IsFinished old new job shop
PushesJob old new job (Err e) = e ≡ NoMemory

-- a row was accepted, and the part is not whole yet
pub record IsOneMore (p : Format) (rows : List Row) (row : Row) (draft : Draft) : Type 0 where
  pub accepted : (grammar_of p).refuses rows row ≡ None
  pub room : (grammar_of p).is_whole (rows ++ row ∷ []) ≡ false
  pub draft_holds : IsDraft p draft (rows ++ row ∷ [])

-- a row was accepted, it was the last, this is the instance, and nothing is drafted
pub record IsLastOne (p : Format) (rows : List Row) (row : Row) (draft : Draft) (shop : Shop) : Type 0 where
  pub accepted : (grammar_of p).refuses rows row ≡ None
  pub whole : (grammar_of p).is_whole (rows ++ row ∷ []) ≡ true
  pub shop_is : shop ≡ (grammar_of p).shop (rows ++ row ∷ [])
  pub draft_holds : IsDraft p draft []

-- what came of a number line behind these rows
abbrev pub TakesRow : Format → List Row → Row → ℕ → Draft → Result (Option Shop) ReadFault → Type 0
TakesRow p rows row n draft (Ok None) = IsOneMore p rows row draft
TakesRow p rows row n draft (Ok (Some shop)) = IsLastOne p rows row draft shop
TakesRow p rows row n draft (Err e) = Fails e n ((grammar_of p).refuses rows row)
