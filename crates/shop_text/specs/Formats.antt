-- The three formats: `orlib` (OR-Library, jobshop1), `routes` (the same with releases and routes of any length), and
-- `taillard` (two matrices, of times and of machines counted from 1; the bounds in its size line are read past).
use Rattle.std.specs.Prelude.{◌≢◌, ℕ, ◌-◌, ◌*◌, ◌%◌, Bool, true, false, not, ◌&&◌, ◌||◌, ◌==◌, nat_le, nat_lt}
use Rattle.std.specs.Prelude.{if◌then◌else◌, List, [], ◌∷◌, length, map, slice_index, take, drop, codes, Option, Some}
use Rattle.std.specs.{Prelude.None, List.{list_all, zip}, Str.bytes_eq}
use Rattle.shop_model.specs.declared.limits.TheConstants.{MAX_JOBS, MAX_MACHINES, MAX_STEPS, MAX_TIME}
use Rattle.shop_model.specs.{declared.ops.Op.Op, Shop.{Shop, ShopJob}}
use Rattle.shop_text.specs.{Lines.{Line, Words}, declared.formats.Format.Format}
use Rattle.shop_text.specs.declared.formats.Format.TheVariants.{Orlib, Taillard, Routes}
use Rattle.shop_text.specs.Grammar.{Row, Grammar, LineFault, WrongShape, WrongSize, WrongRow, WrongMachine, WrongTime}

-- ---- names

abbrev pub is_visible : ℕ → Bool
is_visible b = nat_le 33 b && nat_le b 126

-- a text line of `instance` and a token of visible bytes names an instance
abbrev pub header_of : Line → Option (List ℕ)
header_of (Words (word ∷ name ∷ [])) =
    if bytes_eq word (codes "instance") && list_all is_visible name then Some name else None
header_of line = None

-- ---- size lines

abbrev pub jobs_in : Row → ℕ
jobs_in size = slice_index size 0

abbrev pub machines_in : Row → ℕ
machines_in size = slice_index size 1

abbrev pub is_between : ℕ → ℕ → ℕ → Bool
is_between low high n = nat_le low n && nat_le n high

abbrev pub size_fault : Row → Option LineFault
size_fault size =
    if is_between 1 MAX_JOBS (jobs_in size) && is_between 1 MAX_MACHINES (machines_in size)
    then None else Some WrongSize

-- ---- rows of machine and time

-- the first fault from the left
abbrev pub pairs_fault : ℕ → Row → Option LineFault
pairs_fault machines [] = None
pairs_fault machines (machine ∷ []) = None
pairs_fault machines (machine ∷ time ∷ rest) =
    if not (nat_lt machine machines) then Some WrongMachine else
    if not (nat_le time MAX_TIME) then Some WrongTime else
    pairs_fault machines rest

abbrev pub pairs_of : Row → List Op
pairs_of [] = []
pairs_of (machine ∷ []) = []
pairs_of (machine ∷ time ∷ rest) = record { machine = machine; time = time } ∷ pairs_of rest

-- A part of these two formats is text lines, a size line of two numbers, and a row for each job.
abbrev pub skips_before_size : List Row → Bool
skips_before_size [] = true
skips_before_size (size ∷ rows) = false

abbrev pub refuses_rows : (ℕ → Row → Option LineFault) → List Row → Row → Option LineFault
refuses_rows row_fault [] size = if length size == 2 then size_fault size else Some WrongShape
refuses_rows row_fault (size ∷ rows) row = row_fault (machines_in size) row

abbrev pub has_row_for_each : List Row → Bool
has_row_for_each [] = false
has_row_for_each (size ∷ rows) = length rows == jobs_in size

abbrev pub no_shop : Shop
no_shop = record { machines = 0; jobs = [] }

abbrev pub shop_by_rows : (Row → ShopJob) → List Row → Shop
shop_by_rows job_of [] = no_shop
shop_by_rows job_of (size ∷ rows) = record { machines = machines_in size; jobs = map job_of rows }

abbrev pub grammar_of_rows : (ℕ → Row → Option LineFault) → (Row → ShopJob) → Grammar
grammar_of_rows row_fault job_of = record {
  skips = skips_before_size;
  refuses = refuses_rows row_fault;
  is_whole = has_row_for_each;
  shop = shop_by_rows job_of;
  header = header_of;
}

-- a row of `orlib`: a machine and a time for each machine
abbrev pub orlib_fault : ℕ → Row → Option LineFault
orlib_fault machines row =
    if length row == 2 * machines then pairs_fault machines row else Some WrongRow

abbrev pub orlib_job : Row → ShopJob
orlib_job row = record { release = 0; route = pairs_of row }

abbrev pub orlib : Grammar
orlib = grammar_of_rows orlib_fault orlib_job

-- a row of `routes`: a release, then as many pairs as a route may have steps
abbrev pub routes_fault : ℕ → Row → Option LineFault
routes_fault machines [] = Some WrongRow
routes_fault machines (release ∷ pairs) =
    if not (length pairs % 2 == 0 && nat_le (length pairs) (2 * MAX_STEPS)) then Some WrongRow else
    if not (nat_le release MAX_TIME) then Some WrongTime else
    pairs_fault machines pairs

abbrev pub routes_job : Row → ShopJob
routes_job [] = record { release = 0; route = [] }
routes_job (release ∷ pairs) = record { release = release; route = pairs_of pairs }

abbrev pub routes : Grammar
routes = grammar_of_rows routes_fault routes_job

-- ---- taillard: a size line of 2 to 6 numbers, a row of times for each job, then a row of machines
-- for each job

abbrev pub times_fault : Row → Option LineFault
times_fault row = if list_all (λ time. nat_le time MAX_TIME) row then None else Some WrongTime

abbrev pub machines_fault : ℕ → Row → Option LineFault
machines_fault machines row =
    if list_all (λ machine. is_between 1 machines machine) row then None else Some WrongMachine

-- text lines are skipped before the size line and before the first row of each matrix
abbrev pub taillard_skips : List Row → Bool
taillard_skips [] = true
taillard_skips (size ∷ rows) = (length rows == 0) || (length rows == jobs_in size)

abbrev pub taillard_refuses : List Row → Row → Option LineFault
taillard_refuses [] size = if is_between 2 6 (length size) then size_fault size else Some WrongShape
taillard_refuses (size ∷ rows) row =
    if not (length row == machines_in size) then Some WrongRow else
    if nat_lt (length rows) (jobs_in size) then times_fault row
    else machines_fault (machines_in size) row

abbrev pub has_both_matrices : List Row → Bool
has_both_matrices [] = false
has_both_matrices (size ∷ rows) = length rows == 2 * jobs_in size

-- machine number m is machine m less 1
abbrev pub taillard_op : ℕ × ℕ → Op
taillard_op (time, machine) = record { machine = machine - 1; time = time }

abbrev pub taillard_job : Row × Row → ShopJob
taillard_job (times, row) = record { release = 0; route = map taillard_op (zip times row) }

abbrev pub taillard_shop : List Row → Shop
taillard_shop [] = no_shop
taillard_shop (size ∷ rows) = record {
  machines = machines_in size;
  jobs = map taillard_job (zip (take (jobs_in size) rows) (drop (jobs_in size) rows));
}

abbrev pub taillard : Grammar
taillard = record {
  skips = taillard_skips;
  refuses = taillard_refuses;
  is_whole = has_both_matrices;
  shop = taillard_shop;
  header = λ line. None;
}

-- ---- all formats

abbrev pub grammar_of : Format → Grammar
grammar_of Orlib = orlib
grammar_of Taillard = taillard
grammar_of Routes = routes

-- the word for a format on the command line
abbrev pub word_of : Format → List ℕ
word_of Orlib = codes "orlib"
word_of Taillard = codes "taillard"
word_of Routes = codes "routes"

-- no format has this word
abbrev pub IsNoWord : List ℕ → Type 0
IsNoWord word = (format : Format) → word_of format ≢ word
