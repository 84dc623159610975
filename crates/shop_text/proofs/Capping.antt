-- A row whose numbers are capped is judged as the row itself, and capping changes no number of an accepted row.
use Rattle.std.proofs.{lemmas.Grind.common_steps, Common.{map, Option, Some, None, refl, arith}, lemmas.List.length-map}
use Rattle.std.proofs.Common.{◌≡◌, ℕ, ◌*◌, ◌%◌, ◌<◌, ◌≤◌, Bool, true, cond, not, ◌&&◌, leb, eqb, List, [], ◌∷◌, length}
use Rattle.std.{proofs.lemmas.Bool.{cases_lt, ltb-true, leb-true, le-leb, lt-leb, and_parts}, specs.List.list_all}
use Rattle.shop_text.specs.inner.LineReading.{capped, times_row_fault, machines_row_fault}
use Rattle.shop_text.specs.{Grammar.{LineFault, WrongRow, WrongTime}, Formats.{routes_fault, routes_job}}
use Rattle.shop_text.specs.Formats.{is_between, size_fault, pairs_fault, pairs_of, grammar_of, orlib_fault, orlib_job}
use Rattle.shop_text.specs.declared.formats.Format.{Format}

pub capped_same : (n : ℕ) → n ≤ 18446744073709551615 → capped n ≡ n
capped_same n h = omega arith

pub same_le : (n b : ℕ) → b < 18446744073709551615 → leb (capped n) b ≡ leb n b
same_le n b h = grind (arith, common_steps, cases_lt, capped_same, lt-leb)

pub same_from : (n : ℕ) → leb 1 (capped n) ≡ leb 1 n
same_from n = grind (arith, common_steps, cases_lt, capped_same, le-leb)

same_between : (high n : ℕ) → high < 18446744073709551615 → is_between 1 high (capped n) ≡ is_between 1 high n
same_between high n h = rw (same_from n, same_le n high h) refl

-- ---- tests that refuse

pub no_fault_then : (b : Bool) (name : LineFault) (rest : Option LineFault) → cond (not b) (Some name) rest ≡ None
    → (b ≡ true) × (rest ≡ None)
no_fault_then x name rest e = grind arith

pub no_fault_if : (b : Bool) (name : LineFault) → cond b None (Some name) ≡ None → b ≡ true
no_fault_if x name e = grind arith

pub no_fault_in : (b : Bool) (name : LineFault) (rest : Option LineFault) → cond b rest (Some name) ≡ None
    → (b ≡ true) × (rest ≡ None)
no_fault_in x name rest e = grind arith

-- ---- pairs of machine and time

pairs_capped : (machines : ℕ) → machines ≤ 100 → (row : List ℕ)
    → pairs_fault machines (map capped row) ≡ pairs_fault machines row
pairs_capped machines h [] = refl
pairs_capped machines h (m ∷ []) = refl
pairs_capped machines h (m ∷ p ∷ rest) = grind (arith, common_steps, same_le, pairs_capped machines h rest)

pairs_same : (machines : ℕ) → machines ≤ 100 → (row : List ℕ) → pairs_fault machines row ≡ None
    → pairs_of (map capped row) ≡ pairs_of row
pairs_same machines h [] e = refl
pairs_same machines h (m ∷ []) e = refl
pairs_same machines h (m ∷ p ∷ rest) e =
    grind (arith, common_steps, no_fault_then, ltb-true, leb-true, capped_same, pairs_same machines h rest)

-- ---- rows of `orlib`

pub orlib_capped : (machines : ℕ) → machines ≤ 100 → (row : List ℕ)
    → orlib_fault machines (map capped row) ≡ orlib_fault machines row
orlib_capped machines h row = rw (length-map row capped, pairs_capped machines h row) refl

pub orlib_same : (machines : ℕ) → machines ≤ 100 → (row : List ℕ) → orlib_fault machines row ≡ None
    → orlib_job (map capped row) ≡ orlib_job row
orlib_same machines h row e =
    let free = no_fault_in (eqb (length row) (2 * machines)) WrongRow (pairs_fault machines row) e
    in rw (pairs_same machines h row free.1) refl

-- ---- rows of `routes`

pub routes_capped : (machines : ℕ) → machines ≤ 100 → (row : List ℕ)
    → routes_fault machines (map capped row) ≡ routes_fault machines row
routes_capped machines h x = grind (arith, length-map, same_le, pairs_capped)

pub routes_same : (machines : ℕ) → machines ≤ 100 → (row : List ℕ) → routes_fault machines row ≡ None
    → routes_job (map capped row) ≡ routes_job row
routes_same machines h [] e = refl
routes_same machines h (release ∷ pairs) e =
    let counted = no_fault_then (eqb (length pairs % 2) 0 && leb (length pairs) 200) WrongRow
    (cond (not (leb release 1000000000)) (Some WrongTime) (pairs_fault machines pairs)) e
    in let free = no_fault_then (leb release 1000000000) WrongTime (pairs_fault machines pairs) counted.1
    in let short = leb-true release 1000000000 free.0
    in let er : capped release ≡ release = capped_same release (omega arith)
    in rw (er, pairs_same machines h pairs free.1) refl

-- ---- rows of `taillard`

all_capped : (p : ℕ → Bool) → ((n : ℕ) → p (capped n) ≡ p n) → (row : List ℕ)
    → list_all p (map capped row) ≡ list_all p row
all_capped p h [] = refl
all_capped p h (n ∷ row) = rw (h n, all_capped p h row) refl

all_same : (p : ℕ → Bool) → ((n : ℕ) → p n ≡ true → n ≤ 18446744073709551615) → (row : List ℕ)
    → list_all p row ≡ true → map capped row ≡ row
all_same p h [] e = refl
all_same p h (n ∷ row) e = grind (arith, common_steps, and_parts, capped_same, all_same p h row)

pub times_capped : (machines : ℕ) (row : List ℕ)
    → times_row_fault machines (map capped row) ≡ times_row_fault machines row
times_capped machines row = grind (arith, common_steps, length-map, all_capped, same_le)

pub times_same : (machines : ℕ) (row : List ℕ) → times_row_fault machines row ≡ None → map capped row ≡ row
times_same machines row e = grind (arith, common_steps, no_fault_then, all_same, leb-true, no_fault_if)

pub machines_capped : (machines : ℕ) → machines ≤ 100 → (row : List ℕ)
    → machines_row_fault machines (map capped row) ≡ machines_row_fault machines row
machines_capped machines h row = grind (arith, common_steps, length-map, all_capped, same_between)

pub machines_same : (machines : ℕ) → machines ≤ 100 → (row : List ℕ) → machines_row_fault machines row ≡ None
    → map capped row ≡ row
machines_same machines h row e = grind (arith, common_steps, no_fault_then, all_same, leb-true, and_parts, no_fault_if)

-- ---- size lines

size_capped : (row : List ℕ) → size_fault (map capped row) ≡ size_fault row
size_capped row = grind (arith, common_steps)

pub size_line_capped : (p : Format) (row : List ℕ)
    → (grammar_of p).refuses [] (map capped row) ≡ (grammar_of p).refuses [] row
size_line_capped x row = grind (arith, common_steps, length-map, size_capped)
