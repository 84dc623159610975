-- The instances of a good text are within the limits.
use Rattle.std.proofs.{lemmas.Grind.common_steps, Common.{sym, subst, arith}, lemmas.List.{length-map, map-append}}
use Rattle.std.proofs.Common.{◌≡◌, ℕ, zero, suc, ◌+◌, ◌*◌, ◌≤◌, ◌<◌, List, [], ◌∷◌, length, get_or, map, Option, refl}
use Rattle.std.proofs.{lemmas.Slice.Zip.length-zip, Math.Seq.{take-append_seam, drop-append_seam}}
use Rattle.std.specs.List.{AllByRecursion, zip}
use Rattle.shop_model.specs.{declared.ops.Op.Op, Shop.{ShopJob, no_job}, Limits.IsWithinLimits}
use Rattle.shop_text.specs.{Grammar.{Row, Entry, Part, entry_rows, IsPart}, Formats.{taillard_shop, grammar_of}}
use Rattle.shop_text.specs.Formats.{pairs_of, orlib_job, routes_job, shop_by_rows, taillard_op, taillard_job}
use Rattle.shop_text.specs.Shapes.{IsSize, ArePairs, IsOrlibRow, IsRoutesRow, IsRowLine, IsPartOfRows, IsRowOf, IsTime}
use Rattle.shop_text.specs.{Shapes.{IsMachineNumber, IsMatrix, IsTaillardPart}, Texts.{NamedShop, named_from}}
use Rattle.shop_text.specs.declared.formats.Format.{Format, TheVariants.{Orlib, Taillard, Routes}}
use Rattle.shop_text.proofs.{ShapeLaw.{orlib_shape, routes_shape}, MatrixShape.taillard_shape, VisibleNames.picked_has}
use Rattle.shop_engine.specs.{Asking.IsAsked, Limits.TextsKeepTheLimits}

-- ---- an instance whose jobs are within the limits

abbrev IsSmallOp : ℕ → Op → Type 0
IsSmallOp machines o = (o.machine < machines) × (o.time ≤ 1000000000)

record IsSmallJob (machines : ℕ) (job : ShopJob) : Type 0 where
  release : job.release ≤ 1000000000
  steps : length job.route ≤ 100
  ops : AllByRecursion (IsSmallOp machines) job.route

module _ (machines : ℕ) (some : 1 ≤ machines) where
  job_at : (jobs : List ShopJob) (j : ℕ) → AllByRecursion (IsSmallJob machines) jobs
      → IsSmallJob machines (get_or jobs j no_job)
  job_at [] j all = record { release = omega arith; steps = omega arith; ops = tt }
  job_at (job ∷ jobs) zero all = all.0
  job_at (job ∷ jobs) (suc j) all = job_at jobs j all.1

within : (machines : ℕ) (jobs : List ShopJob) → IsSize (length jobs) machines
    → AllByRecursion (IsSmallJob machines) jobs → IsWithinLimits (record { machines = machines; jobs = jobs })
within machines jobs size all =
    grind (arith, common_steps, size.some_machine, size.few_machines, size.some_job, size.few_jobs)

-- ---- `orlib` and `routes`

pairs_small : (machines : ℕ) (row : Row) → ArePairs machines row → AllByRecursion (IsSmallOp machines) (pairs_of row)
pairs_small machines [] h = tt
pairs_small machines (m ∷ []) h = absurd h
pairs_small machines (m ∷ p ∷ rest) h = ((h.0, h.1), pairs_small machines rest h.2)

pairs_count : (machines : ℕ) (row : Row) → ArePairs machines row → 2 * length (pairs_of row) ≡ length row
pairs_count machines [] h = refl
pairs_count machines (m ∷ []) h = absurd h
pairs_count machines (m ∷ p ∷ rest) h = let e = pairs_count machines rest h.2 in omega arith

orlib_small : (machines : ℕ) (row : Row) → machines ≤ 100 → IsOrlibRow machines row
    → IsSmallJob machines (orlib_job row)
orlib_small machines row few h = grind (arith, common_steps, pairs_count, pairs_small, h.pairs, h.len)

routes_small : (machines : ℕ) (row : Row) → machines ≤ 100 → IsRoutesRow machines row
    → IsSmallJob machines (routes_job row)
routes_small machines row few h =
    grind (arith, common_steps, pairs_count, pairs_small, h.cut, h.small, h.rest, h.pairs, h.few)

module _ (IsRow : ℕ → Row → Type 0) (job_of : Row → ShopJob) (small : (machines : ℕ) (row : Row) → machines ≤ 100
    → IsRow machines row → IsSmallJob machines (job_of row)) where
  rows_small : (machines : ℕ) → machines ≤ 100 → (rows : List Entry) → AllByRecursion (IsRowLine (IsRow machines)) rows
      → AllByRecursion (IsSmallJob machines) (map job_of (entry_rows rows))
  rows_small machines few [] all = tt
  rows_small machines few (e ∷ rows) all = (
    small machines e.row few all.0.is_row,
    rows_small machines few rows all.1,
  )

  part_within : (part : Part) → IsPartOfRows IsRow part → IsWithinLimits (shop_by_rows job_of (entry_rows part))
  part_within part p = grind (arith, length-map, within, rows_small)

-- ---- `taillard`

ops_small : (machines : ℕ) (times row : Row) → AllByRecursion IsTime times
    → AllByRecursion (IsMachineNumber machines) row
    → AllByRecursion (IsSmallOp machines) (map taillard_op (zip times row))
ops_small machines [] row a b = tt
ops_small machines (t ∷ times) [] a b = tt
ops_small machines (t ∷ times) (m ∷ row) a b =
    grind (arith, common_steps, b.0.0, b.0.1, a.0, a.1, b.1, ops_small machines times row a.1 b.1)

taillard_small : (machines : ℕ) (times row : Row) → machines ≤ 100 → IsRowOf IsTime machines times
    → IsRowOf (IsMachineNumber machines) machines row → IsSmallJob machines (taillard_job (times, row))
taillard_small machines times row few a b =
    grind (arith, common_steps, length-map, length-zip, ops_small, a.len, a.each, b.each)

abbrev AreRows : (Row → Type 0) → List Entry → Type 0
AreRows IsRow rows = AllByRecursion IsRow (entry_rows rows)

lines_rows : (IsRow : Row → Type 0) (rows : List Entry) → AllByRecursion (IsRowLine IsRow) rows → AreRows IsRow rows
lines_rows IsRow [] all = tt
lines_rows IsRow (e ∷ rows) all = (all.0.is_row, lines_rows IsRow rows all.1)

matrix_rows : (IsRow : Row → Type 0) (rows : List Entry) → IsMatrix IsRow rows → AreRows IsRow rows
matrix_rows IsRow [] is = tt
matrix_rows IsRow (top ∷ rows) is = (is.1, lines_rows IsRow rows is.2)

zipped_small : (machines : ℕ) → machines ≤ 100 → (times rows : List Row)
    → AllByRecursion (IsRowOf IsTime machines) times → AllByRecursion (IsRowOf (IsMachineNumber machines) machines) rows
    → AllByRecursion (IsSmallJob machines) (map taillard_job (zip times rows))
zipped_small machines few [] rows a b = tt
zipped_small machines few (t ∷ times) [] a b = tt
zipped_small machines few (t ∷ times) (row ∷ rows) a b =
    (taillard_small machines t row few a.0 b.0, zipped_small machines few times rows a.1 b.1)

matrices_within : (part : Part) → IsTaillardPart part → IsWithinLimits (taillard_shop (entry_rows part))
matrices_within part p =
    grind (
      arith,
      length-map,
      length-zip,
      map-append,
      within,
      zipped_small,
      matrix_rows,
      take-append_seam,
      drop-append_seam,
    )

-- ---- whole texts

of_part : (p : Format) (part : Part) → IsPart (grammar_of p) part
    → IsWithinLimits ((grammar_of p).shop (entry_rows part))
of_part Orlib part is = part_within IsOrlibRow orlib_job orlib_small part ((orlib_shape part).0 is)
of_part Routes part is = part_within IsRoutesRow routes_job routes_small part ((routes_shape part).0 is)
of_part Taillard part is = matrices_within part ((taillard_shape part).0 is)

abbrev AreWithin : List NamedShop → Type 0
AreWithin shops = AllByRecursion (λ (s : NamedShop). IsWithinLimits s.shop) shops

named_within : (p : Format) (n : ℕ) (parts : List Part) → AllByRecursion (IsPart (grammar_of p)) parts
    → AreWithin (named_from (grammar_of p) n parts)
named_within p n [] all = tt
named_within p n (part ∷ parts) all = (of_part p part all.0, named_within p (n + 1) parts all.1)

pub texts_keep_the_limits : TextsKeepTheLimits
texts_keep_the_limits p text shops is =
    subst AreWithin (sym is.shops_are) (named_within p 1 is.parts is.good.parts_good)

-- ---- the instance that is asked for

pub asked_within : (format : Format) (name : Option (List ℕ)) (text : List ℕ) (asked : NamedShop)
    → IsAsked format name text asked → IsWithinLimits asked.shop
asked_within format name text asked is =
    picked_has (λ (s : NamedShop). IsWithinLimits s.shop) is.shops name asked
    (texts_keep_the_limits format text is.shops is.is_text) is.picked
