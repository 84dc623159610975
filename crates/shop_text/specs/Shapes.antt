-- Parts of the three formats in plain words.
use Rattle.std.specs.{Prelude.{◌≡◌, ℕ, ◌*◌, ◌<◌, ◌≤◌, ◌↔◌, List, [], ◌∷◌, ◌++◌, length}, List.AllByRecursion}
use Rattle.shop_model.specs.declared.limits.TheConstants.{MAX_JOBS, MAX_MACHINES, MAX_STEPS, MAX_TIME}
use Rattle.shop_text.specs.Grammar.{Row, Entry, Part, AreText, IsPart}
use Rattle.shop_text.specs.Formats.{jobs_in, machines_in, orlib, routes, taillard}

-- jobs and machines within the limits of an instance
pub record IsSize (jobs machines : ℕ) : Type 0 where
  pub some_job : 1 ≤ jobs
  pub few_jobs : jobs ≤ MAX_JOBS
  pub some_machine : 1 ≤ machines
  pub few_machines : machines ≤ MAX_MACHINES

-- machine, time, machine, time: each machine is one of them, and no time is over the limit
abbrev pub ArePairs : ℕ → Row → Type 0
ArePairs machines [] = Unit {0}
ArePairs machines (machine ∷ []) = ⊥
ArePairs machines (machine ∷ time ∷ rest) = (machine < machines) × (time ≤ MAX_TIME) × ArePairs machines rest

-- a row of `orlib`: a machine and a time for each machine
pub record IsOrlibRow (machines : ℕ) (row : Row) : Type 0 where
  pub len : length row ≡ 2 * machines
  pub pairs : ArePairs machines row

-- a row of `routes`: a release within the limit of times, then as many pairs as a route may have steps
pub record IsRoutesRow (machines : ℕ) (row : Row) : Type 0 where
  pub release : ℕ
  pub rest : Row
  pub cut : row ≡ release ∷ rest
  pub small : release ≤ MAX_TIME
  pub few : length rest ≤ 2 * MAX_STEPS
  pub pairs : ArePairs machines rest

-- a row with no text line before it
pub record IsRowLine (IsRow : Row → Type 0) (e : Entry) : Type 0 where
  pub no_text : e.before ≡ []
  pub is_row : IsRow e.row

-- text lines and a size line of two numbers, jobs and machines within the limits; then a row for each job
pub record IsPartOfRows (IsRow : ℕ → Row → Type 0) (part : Part) : Type 0 where
  pub first : Entry
  pub rows : List Entry
  pub cut : part ≡ first ∷ rows
  pub text : AreText first.before
  pub two : length first.row ≡ 2
  pub size : IsSize (jobs_in first.row) (machines_in first.row)
  pub count : length rows ≡ jobs_in first.row
  pub each : AllByRecursion (IsRowLine (IsRow (machines_in first.row))) rows

-- a row of `taillard`: as many numbers as machines, each of them allowed
pub record IsRowOf (IsAllowed : ℕ → Type 0) (machines : ℕ) (row : Row) : Type 0 where
  pub len : length row ≡ machines
  pub each : AllByRecursion IsAllowed row

abbrev pub IsTime : ℕ → Type 0
IsTime time = time ≤ MAX_TIME

-- machines are counted from 1
abbrev pub IsMachineNumber : ℕ → ℕ → Type 0
IsMachineNumber machines number = (1 ≤ number) × (number ≤ machines)

-- text lines before the first row alone
abbrev pub IsMatrix : (Row → Type 0) → List Entry → Type 0
IsMatrix IsRow [] = Unit {0}
IsMatrix IsRow (top ∷ rows) = AreText top.before × IsRow top.row × AllByRecursion (IsRowLine IsRow) rows

-- text lines and a size line of 2 to 6 numbers; then a matrix of times and one of machines, a row for each job in each
pub record IsTaillardPart (part : Part) : Type 0 where
  pub first : Entry
  pub times : List Entry
  pub machines : List Entry
  pub cut : part ≡ first ∷ times ++ machines
  pub text : AreText first.before
  pub least : 2 ≤ length first.row
  pub most : length first.row ≤ 6
  pub size : IsSize (jobs_in first.row) (machines_in first.row)
  pub times_count : length times ≡ jobs_in first.row
  pub machines_count : length machines ≡ jobs_in first.row
  pub are_times : IsMatrix (IsRowOf IsTime (machines_in first.row)) times
  pub are_machines : IsMatrix (IsRowOf (IsMachineNumber (machines_in first.row)) (machines_in first.row)) machines

-- the parts that the grammar has of these formats are just these
abbrev pub OrlibShape : Type 0
OrlibShape = (part : Part) → IsPart orlib part ↔ IsPartOfRows IsOrlibRow part

abbrev pub RoutesShape : Type 0
RoutesShape = (part : Part) → IsPart routes part ↔ IsPartOfRows IsRoutesRow part

abbrev pub TaillardShape : Type 0
TaillardShape = (part : Part) → IsPart taillard part ↔ IsTaillardPart part
