-- The parts of `taillard` are those in plain words.
use Rattle.std.proofs.lemmas.{Grind.common_steps, Bool.{eq-eqb, ne_eqb, true≢false, and_parts, and_from, or_right}}
use Rattle.std.proofs.{lemmas.Bool.{or_from, leb-true, le-leb, lt-ltb, le-ltb, eqb-true}, Common.{◌≡◌, ℕ, zero, suc}}
use Rattle.std.proofs.Common.{◌+◌, ◌-◌, ◌*◌, ◌≤◌, ◌<◌, inr, Bool, true, leb, List, [], rules, ◌∷◌, ◌++◌, length, Option}
use Rattle.std.proofs.{Common.{None, refl, sym, ap, subst, cond, arith}, lemmas.List.{length-map, length-append}}
use Rattle.std.specs.List.{list_all, AllByRecursion}
use Rattle.shop_text.specs.{Lines.Numbered, Grammar.IsPart, Formats.{jobs_in, machines_in}}
use Rattle.shop_text.specs.Grammar.{Row, LineFault, WrongShape, Entry, Part, entry_rows, AreSkipped, AreAccepted}
use Rattle.shop_text.specs.Formats.{taillard, taillard_refuses, times_fault, machines_fault, size_fault, is_between}
use Rattle.shop_text.specs.Shapes.{IsRowOf, IsTime, IsMachineNumber, IsRowLine, IsMatrix, IsTaillardPart, TaillardShape}
use Rattle.shop_text.proofs.{Capping.{no_fault_then, no_fault_if, no_fault_in}, ShapeLaw.{size_from, size_to}}

-- ---- a row

each_from : (p : ℕ → Bool) (Is : ℕ → Type 0) → ((n : ℕ) → p n ≡ true → Is n) → (row : Row)
    → list_all p row ≡ true → AllByRecursion Is row
each_from p Is h [] e = tt
each_from p Is h (n ∷ row) e = grind (arith, common_steps, and_parts, each_from p Is h row)

each_to : (p : ℕ → Bool) (Is : ℕ → Type 0) → ((n : ℕ) → Is n → p n ≡ true) → (row : Row)
    → AllByRecursion Is row → list_all p row ≡ true
each_to p Is h [] a = refl
each_to p Is h (n ∷ row) a = and_from (p n) (list_all p row) (h n a.0) (each_to p Is h row a.1)

abbrev TimesRow : Row → Row → Type 0
TimesRow size row = IsRowOf IsTime (machines_in size) row

abbrev MachinesRow : Row → Row → Type 0
MachinesRow size row = IsRowOf (IsMachineNumber (machines_in size)) (machines_in size) row

abbrev row_fault : Bool → Row → Row → Option LineFault
row_fault b size row = cond b (times_fault row) (machines_fault (machines_in size) row)

times_row_from : (size : Row) (done : List Row) (row : Row) → length done < jobs_in size
    → taillard_refuses (size ∷ done) row ≡ None → TimesRow size row
times_row_from size done row few e = grind (arith, no_fault_then, lt-ltb, eqb-true, each_from, leb-true, no_fault_if)

times_row_to : (size : Row) (done : List Row) (row : Row) → length done < jobs_in size
    → TimesRow size row → taillard_refuses (size ∷ done) row ≡ None
times_row_to size done row few h = grind (arith, common_steps, eq-eqb, lt-ltb, each_to, le-leb)

machines_row_from : (size : Row) (done : List Row) (row : Row) → jobs_in size ≤ length done
    → taillard_refuses (size ∷ done) row ≡ None → MachinesRow size row
machines_row_from size done row many e =
    grind (arith, common_steps, no_fault_then, le-ltb, eqb-true, each_from, and_parts, leb-true, no_fault_if)

machines_row_to : (size : Row) (done : List Row) (row : Row) → jobs_in size ≤ length done
    → MachinesRow size row → taillard_refuses (size ∷ done) row ≡ None
machines_row_to size done row many h = grind (arith, common_steps, eq-eqb, le-ltb, each_to, and_from, le-leb)

-- ---- the rows behind a size line

-- text lines aren't skipped inside a matrix
no_text : (size : Row) (done : List Row) (lines : List Numbered) → 0 < length done
    → (length done ≡ jobs_in size → ⊥) → AreSkipped taillard (size ∷ done) lines → lines ≡ []
no_text size done lines some other x = grind (arith, or_from, ne_eqb)

machines_on_from : (size : Row) (done : List Row) (rows : List Entry) → jobs_in size < length done
    → AreAccepted taillard (size ∷ done) rows → AllByRecursion (IsRowLine (MachinesRow size)) rows
machines_on_from size done [] many a = tt
machines_on_from size done (e ∷ rows) many a =
    grind (arith, no_text, machines_row_from, length-append, machines_on_from size (done ++ e.row ∷ []) rows)

machines_from : (size : Row) (done : List Row) (rows : List Entry) → length done ≡ jobs_in size
    → AreAccepted taillard (size ∷ done) rows → IsMatrix (MachinesRow size) rows
machines_from size done x full a = grind (arith, machines_row_from, machines_on_from, length-append)

record IsCut (size : Row) (more : ℕ) (rows : List Entry) : Type 0 where
  times : List Entry
  machines : List Entry
  cut : rows ≡ times ++ machines
  times_count : length times ≡ more
  machines_count : length machines ≡ jobs_in size
  are_times : AllByRecursion (IsRowLine (TimesRow size)) times
  are_machines : IsMatrix (MachinesRow size) machines

times_on_from : (size : Row) (more : ℕ) (done : List Row) (rows : List Entry) → 0 < length done
    → length done + more ≡ jobs_in size → length rows ≡ more + jobs_in size
    → AreAccepted taillard (size ∷ done) rows → IsCut size more rows
times_on_from size zero done rows some left len a = grind (arith, machines_from)
times_on_from size (suc more) done [] some left len a = absurd (omega (arith, len))
times_on_from size (suc more) done (e ∷ rows) some left len a =
    let on = times_on_from size more (done ++ e.row ∷ []) rows (omega (arith, length-append done (e.row ∷ [])))
    (omega (arith, left, length-append done (e.row ∷ []))) (omega (arith, len)) a.1
    in record {
      times = e ∷ on.times;
      machines = on.machines;
      cut = ap (λ (r : List Entry). e ∷ r) on.cut;
      times_count = omega (arith, on.times_count);
      machines_count = on.machines_count;
      are_times = grind (arith, no_text, times_row_from);
      are_machines = on.are_machines;
    }

machines_on_to : (size : Row) (done : List Row) (rows : List Entry) → jobs_in size < length done
    → length done + length rows ≡ 2 * jobs_in size → AllByRecursion (IsRowLine (MachinesRow size)) rows
    → AreAccepted taillard (size ∷ done) rows
machines_on_to size done [] many len h = tt
machines_on_to size done (e ∷ rows) many len h =
    grind (arith, ne_eqb, machines_row_to, length-append, machines_on_to size (done ++ e.row ∷ []) rows)

machines_to : (size : Row) (done : List Row) (rows : List Entry) → length done ≡ jobs_in size
    → length rows ≡ jobs_in size → IsMatrix (MachinesRow size) rows → AreAccepted taillard (size ∷ done) rows
machines_to size done x full len h =
    grind (arith, ne_eqb, or_right, eq-eqb, machines_row_to, machines_on_to, length-append)

times_on_to : (size : Row) (done : List Row) (times machines : List Entry) → 0 < length done
    → length done + length times ≡ jobs_in size → length machines ≡ jobs_in size
    → AllByRecursion (IsRowLine (TimesRow size)) times → IsMatrix (MachinesRow size) machines
    → AreAccepted taillard (size ∷ done) (times ++ machines)
times_on_to size done [] machines some left len h g = grind (arith, common_steps, machines_to)
times_on_to size done (e ∷ times) machines some left len h g =
    grind (arith, ne_eqb, times_row_to, length-append, times_on_to size (done ++ e.row ∷ []) times machines)

-- ---- parts

plain_from : (part : Part) → IsPart taillard part → IsTaillardPart part
plain_from [] h = absurd (true≢false (sym h.1))
plain_from (first ∷ []) h = grind (arith, no_fault_in, size_from, eqb-true)
plain_from (first ∷ top ∷ rows) h =
    let counted = no_fault_in (is_between 2 6 (length first.row)) WrongShape (size_fault first.row) h.0.0.row
    in let between = and_parts (leb 2 (length first.row)) (leb (length first.row) 6) counted.0
    in let size = size_from first.row counted.1
    in let all = eqb-true (length (entry_rows (top ∷ rows))) (2 * jobs_in first.row) h.1
    in let more : ℕ = jobs_in first.row - 1
    in let on = times_on_from first.row more (top.row ∷ []) rows (omega arith) (omega (arith, size.some_job))
    (omega (arith, size.some_job, all, length-map rows (λ e. e.row))) h.0.1.1
    in record {
      first = first;
      times = top ∷ on.times;
      machines = on.machines;
      cut = subst (λ r. first ∷ top ∷ rows ≡ first ∷ top ∷ r) on.cut refl;
      text = h.0.0.text.0;
      least = leb-true 2 (length first.row) between.0;
      most = leb-true (length first.row) 6 between.1;
      size = size;
      times_count = omega (arith, size.some_job, on.times_count);
      machines_count = on.machines_count;
      are_times = search (rules, times_row_from);
      are_machines = on.are_machines;
    }

behind_to : (size : Row) (times machines : List Entry) → 1 ≤ jobs_in size → length times ≡ jobs_in size
    → length machines ≡ jobs_in size → IsMatrix (TimesRow size) times → IsMatrix (MachinesRow size) machines
    → AreAccepted taillard (size ∷ []) (times ++ machines)
behind_to size [] machines some len count h g = absurd (omega (arith, len))
behind_to size (top ∷ times) machines some len count h g = (
  record {
    room = ne_eqb 0 (2 * jobs_in size) (λ is. omega arith);
    text = (h.0, inr refl);
    row = times_row_to size [] top.row (omega arith) h.1;
  },
  times_on_to size (top.row ∷ []) times machines (omega arith) (omega (arith, len)) count h.2 g,
)

plain_to : (part : Part) → IsTaillardPart part → IsPart taillard part
plain_to part p = grind (arith, common_steps, le-leb, size_to, behind_to, eq-eqb, length-map, length-append)

pub taillard_shape : TaillardShape
taillard_shape part = (plain_from part, plain_to part)
