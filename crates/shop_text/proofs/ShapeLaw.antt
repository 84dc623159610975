-- The parts of `orlib` and `routes` are those in plain words.
use Rattle.std.proofs.{lemmas.{Grind.common_steps, List.{length-map, length-append}}, Common.{◌≡◌, ℕ, zero, suc, ◌+◌}}
use Rattle.std.proofs.Common.{◌*◌, ◌%◌, ◌/◌, inr, cond, not, ◌&&◌, leb, rules, eqb, List, [], ◌∷◌, ◌++◌, length, Option}
use Rattle.std.proofs.{Common.{Some, None, refl, sym, ◌∙◌, subst, arith}, lemmas.Bool.{and_parts, leb-true, le-leb}}
use Rattle.std.{proofs.lemmas.Bool.{ltb-true, lt-ltb, eqb-true, eq-eqb, ne_eqb, true≢false}, specs.List.AllByRecursion}
use Rattle.shop_model.specs.Shop.{ShopJob}
use Rattle.shop_text.specs.Grammar.{Row, LineFault, WrongShape, WrongRow, WrongTime, Entry, Part, entry_rows}
use Rattle.shop_text.specs.{Grammar.{AreAccepted, IsPart}, Formats.machines_in, Shapes.RoutesShape}
use Rattle.shop_text.specs.Formats.{orlib_fault, routes_fault, grammar_of_rows, pairs_fault, size_fault, jobs_in}
use Rattle.shop_text.specs.Shapes.{IsSize, ArePairs, IsOrlibRow, IsRoutesRow, IsRowLine, IsPartOfRows, OrlibShape}
use Rattle.shop_text.proofs.Capping.{no_fault_then, no_fault_in}

-- ---- a row

pairs_from : (machines : ℕ) (row : Row) (half : ℕ) → length row ≡ 2 * half → pairs_fault machines row ≡ None
    → ArePairs machines row
pairs_from machines [] half len e = tt
pairs_from machines (m ∷ []) half len e = absurd (omega arith)
pairs_from machines (m ∷ p ∷ rest) zero len e = absurd (omega arith)
pairs_from machines (m ∷ p ∷ rest) (suc half) len e =
    grind (arith, common_steps, no_fault_then, ltb-true, leb-true, pairs_from machines rest half (omega arith))

pairs_to : (machines : ℕ) (row : Row) → ArePairs machines row → pairs_fault machines row ≡ None
pairs_to machines [] h = refl
pairs_to machines (m ∷ []) h = refl
pairs_to machines (m ∷ p ∷ rest) h = grind (arith, common_steps, lt-ltb, le-leb, pairs_to machines rest h.2)

-- ---- a size line

pub size_from : (row : Row) → size_fault row ≡ None → IsSize (jobs_in row) (machines_in row)
size_from row e = grind (arith, common_steps, and_parts, leb-true)

pub size_to : (row : Row) → IsSize (jobs_in row) (machines_in row) → size_fault row ≡ None
size_to row s = grind (arith, common_steps, le-leb)

-- ---- rows of `orlib` and `routes`

orlib_row_from : (machines : ℕ) (row : Row) → orlib_fault machines row ≡ None → IsOrlibRow machines row
orlib_row_from machines row e =
    let counted = no_fault_in (eqb (length row) (2 * machines)) WrongRow (pairs_fault machines row) e
    in let len = eqb-true (length row) (2 * machines) counted.0
    in record { len = len; pairs = pairs_from machines row machines len counted.1 }

orlib_row_to : (machines : ℕ) (row : Row) → IsOrlibRow machines row → orlib_fault machines row ≡ None
orlib_row_to machines row h = grind (arith, common_steps, eq-eqb, pairs_to)

-- pairs are an even count
half_of : ℕ → Row → ℕ
half_of machines [] = 0
half_of machines (m ∷ []) = 0
half_of machines (m ∷ p ∷ rest) = suc (half_of machines rest)

pairs_even : (machines : ℕ) (row : Row) → ArePairs machines row → length row ≡ 2 * half_of machines row
unfolding half_of
pairs_even machines [] h = refl
pairs_even machines (m ∷ []) h = absurd h
pairs_even machines (m ∷ p ∷ rest) h = omega (arith, pairs_even machines rest h.2)

routes_row_from : (machines : ℕ) (row : Row) → routes_fault machines row ≡ None → IsRoutesRow machines row
routes_row_from machines [] e = absurd cc
routes_row_from machines (release ∷ rest) e =
    let counted = no_fault_then (eqb (length rest % 2) 0 && leb (length rest) 200) WrongRow
    (cond (not (leb release 1000000000)) (Some WrongTime) (pairs_fault machines rest)) e
    in let both = and_parts (eqb (length rest % 2) 0) (leb (length rest) 200) counted.0
    in let free = no_fault_then (leb release 1000000000) WrongTime (pairs_fault machines rest) counted.1
    in let even = eqb-true (length rest % 2) 0 both.0
    in record {
      release = release;
      rest = rest;
      cut = refl;
      small = leb-true release 1000000000 free.0;
      few = leb-true (length rest) 200 both.1;
      pairs = pairs_from machines rest (length rest / 2) (omega (arith, even)) free.1;
    }

routes_row_to : (machines : ℕ) (row : Row) → IsRoutesRow machines row → routes_fault machines row ≡ None
routes_row_to machines row h =
    let len = pairs_even machines h.rest h.pairs
    in let even : length h.rest % 2 ≡ 0 = omega (arith, len)
    in rw (
      h.cut,
      eq-eqb (length h.rest % 2) 0 even,
      le-leb (length h.rest) 200 h.few,
      le-leb h.release 1000000000 h.small,
    ) (pairs_to machines h.rest h.pairs)

-- ---- the rows behind a size line

rows_from : (fault : ℕ → Row → Option LineFault) (job : Row → ShopJob) (IsRow : ℕ → Row → Type 0)
    → ((machines : ℕ) (row : Row) → fault machines row ≡ None → IsRow machines row)
    → (size : Row) (done : List Row) (rows : List Entry) → AreAccepted (grammar_of_rows fault job) (size ∷ done) rows
    → AllByRecursion (IsRowLine (IsRow (machines_in size))) rows
rows_from fault job IsRow from size done [] a = tt
rows_from fault job IsRow from size done (e ∷ rows) a =
    grind (arith, common_steps, rows_from fault job IsRow from size (done ++ e.row ∷ []) rows a.1)

rows_to : (fault : ℕ → Row → Option LineFault) (job : Row → ShopJob) (IsRow : ℕ → Row → Type 0)
    → ((machines : ℕ) (row : Row) → IsRow machines row → fault machines row ≡ None)
    → (size : Row) (done : List Row) (rows : List Entry) → length done + length rows ≡ jobs_in size
    → AllByRecursion (IsRowLine (IsRow (machines_in size))) rows
    → AreAccepted (grammar_of_rows fault job) (size ∷ done) rows
rows_to fault job IsRow to size done [] len h = tt
rows_to fault job IsRow to size done (e ∷ rows) len h =
    grind (arith, ne_eqb, length-append, rows_to fault job IsRow to size (done ++ e.row ∷ []) rows)

-- ---- parts

plain_from : (fault : ℕ → Row → Option LineFault) (job : Row → ShopJob) (IsRow : ℕ → Row → Type 0)
    → ((machines : ℕ) (row : Row) → fault machines row ≡ None → IsRow machines row)
    → (part : Part) → IsPart (grammar_of_rows fault job) part → IsPartOfRows IsRow part
plain_from fault job IsRow from [] h = absurd (true≢false (sym h.1))
plain_from fault job IsRow from (first ∷ rows) h =
    let counted = no_fault_in (eqb (length first.row) 2) WrongShape (size_fault first.row) h.0.0.row
    in record {
      first = first;
      rows = rows;
      cut = refl;
      text = h.0.0.text.0;
      two = eqb-true (length first.row) 2 counted.0;
      size = size_from first.row counted.1;
      count = sym (length-map rows (λ e. e.row)) ∙ eqb-true (length (entry_rows rows)) (jobs_in first.row) h.1;
      each = rows_from fault job IsRow from first.row [] rows h.0.1;
    }

plain_to : (fault : ℕ → Row → Option LineFault) (job : Row → ShopJob) (IsRow : ℕ → Row → Type 0)
    → ((machines : ℕ) (row : Row) → IsRow machines row → fault machines row ≡ None)
    → (part : Part) → IsPartOfRows IsRow part → IsPart (grammar_of_rows fault job) part
plain_to fault job IsRow to part p = subst (IsPart (grammar_of_rows fault job)) (sym p.cut) (
  (
    record {
      room = refl;
      text = (p.text, inr refl);
      row = rw (eq-eqb (length p.first.row) 2 p.two) (size_to p.first.row p.size);
    },
    rows_to fault job IsRow to p.first.row [] p.rows (omega (arith, p.count)) p.each,
  ),
  eq-eqb (length (entry_rows p.rows)) (jobs_in p.first.row) (length-map p.rows (λ e. e.row) ∙ p.count),
)

pub orlib_shape : OrlibShape
orlib_shape part = search (rules, plain_from, orlib_row_from, plain_to, orlib_row_to)

pub routes_shape : RoutesShape
routes_shape part = search (rules, plain_from, routes_row_from, plain_to, routes_row_to)
