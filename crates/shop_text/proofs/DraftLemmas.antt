-- A draft after one more number line.
use Rattle.std.proofs.{lemmas.Grind.common_steps, Common.{Option, None, Result, Vec, refl, sym, ap, ◌∙◌, arith, min}}
use Rattle.std.proofs.Common.{◌≡◌, ℕ, ◌+◌, ◌<◌, ◌≤◌, false, eqb, List, [], ◌∷◌, ◌++◌, length, map, take, drop, get_or}
use Rattle.std.proofs.{lemmas.Bool.{lt-ltb, le-ltb, ne_eqb}, lemmas.List.{take-append-le, drop-append-le, get_or-map}}
use Rattle.std.proofs.lemmas.List.{length-map, map-append, length-append, length-take, length-take-le, length-drop}
use Rattle.std.proofs.lemmas.Slice.Zip.{length-zip}
use Rattle.std.specs.{Prelude.{IsErr, IsOk, ◌↔◌}, List.zip, declared.alloc.Global.Global}
use Rattle.shop_model.specs.{declared.ops.Job.Job, Shop.ShopJob, Given.job_as_given}
use Rattle.shop_model.specs.Limits.{IsJobWithin, AreJobsWithin}
use Rattle.shop_text.specs.inner.LineReading.{capped, JudgesRow, times_row_fault, machines_row_fault}
use Rattle.shop_text.specs.{inner.DraftLimits.IsDraftWithin, Grammar.{Row, LineFault}, Formats.{taillard, taillard_job}}
use Rattle.shop_text.specs.Formats.{grammar_of, jobs_in, machines_in, orlib_fault, orlib_job, routes_fault, routes_job}
use Rattle.shop_text.specs.{inner.Drafts.{items_of, jobs_drafted, HoldsRows, IsDraft}, declared.formats.Format.Format}
use Rattle.shop_text.specs.declared.{instance_drafts.Draft.Draft, faults.ReadFault.ReadFault}
use Rattle.shop_text.{specs.declared.formats.Format.TheVariants.{Orlib, Taillard, Routes}, proofs.Capping.orlib_capped}
use Rattle.shop_text.proofs.Capping.{orlib_same, routes_capped, routes_same, machines_capped, machines_same}

-- what refuses only what doesn't hold is there where it holds
pub ok_since : {A E P : Type 0} (r : Result A E) → (IsErr r ↔ (P → ⊥)) → P → IsOk r
ok_since y h p = grind arith

-- the last job is there
pub all_there : (wanted machines : ℕ) (times : List (Vec ℕ Global)) (old jobs : List Job) (job : Job)
    → IsDraftWithin wanted machines times old → 0 < wanted → IsJobWithin machines job → jobs ≡ old ++ job ∷ []
    → AreJobsWithin machines jobs
all_there wanted machines times old jobs job w some within e = grind (arith, common_steps, length-append)

-- ---- the job of a row

pub judged_on : {X : Type 0} (P Q : X → Type 0) (r : Result X ReadFault) (n : ℕ) (f g : Option LineFault) → f ≡ g
    → ((x : X) → f ≡ None → P x → Q x) → JudgesRow r n f P → JudgesRow r n g Q
judged_on y z u n f g e go h = grind arith

-- one more job
job_pushed : (jobs : List Job) (job : Job) (shop_jobs : List ShopJob) (next : ShopJob)
    → map job_as_given jobs ≡ shop_jobs → job_as_given job ≡ next
    → map job_as_given (jobs ++ job ∷ []) ≡ shop_jobs ++ next ∷ []
job_pushed jobs job shop_jobs next e g = map-append job_as_given jobs (job ∷ []) ∙ rw (e, g) refl

abbrev FaultOf : Type 0
FaultOf = ℕ → Row → Option LineFault

-- a row of machine and time
pub row_judged : (fault : FaultOf) (job_of : Row → ShopJob)
    (cap : (m : ℕ) → m ≤ 100 → (row : Row) → fault m (map capped row) ≡ fault m row)
    (same : (m : ℕ) → m ≤ 100 → (row : Row) → fault m row ≡ None → job_of (map capped row) ≡ job_of row)
    (jobs : List Job) (machines n : ℕ) (row : Row) (r : Result Job ReadFault) → machines ≤ 100
    → JudgesRow r n (fault machines row) (λ job. job_as_given job ≡ job_of row)
    → (size : Row) (rows : List Row) (written : Row) → machines ≡ machines_in size
    → map job_as_given jobs ≡ map job_of rows → row ≡ map capped written
    → JudgesRow r n (fault (machines_in size) written)
    (λ job. map job_as_given (jobs ++ job ∷ []) ≡ map job_of (rows ++ written ∷ []))
row_judged fault job_of cap same jobs machines n row r few h size rows written em ej er =
    grind (arith, common_steps, job_pushed, map-append)

-- ---- the job of two rows of `taillard`

pub zip_none : (xs : List Row) → zip {K = Row} {X = Row} xs [] ≡ []
zip_none [] = refl
zip_none (x ∷ xs) = refl

zip_push : (xs ys : List Row) (x y : Row) → length ys < length xs → x ≡ get_or xs (length ys) []
    → zip xs (ys ++ y ∷ []) ≡ zip xs ys ++ (x, y) ∷ []
zip_push [] ys x y h e = absurd (omega arith)
zip_push (v ∷ xs) [] x y h e = rw (e, zip_none xs) refl
zip_push (v ∷ xs) (w ∷ ys) x y h e = ap (λ (zs : List (Row × Row)). (v, w) ∷ zs) (zip_push xs ys x y (omega arith) e)

-- behind the rows of times stands a row of machines
pub machines_refused : (size : Row) (rows : List Row) (written : Row) → jobs_in size ≤ length rows
    → taillard.refuses (size ∷ rows) written ≡ machines_row_fault (machines_in size) written
machines_refused size rows written h = rw (le-ltb (length rows) (jobs_in size) h) refl

-- before it one of times
pub times_refused : (size : Row) (rows : List Row) (written : Row) → length rows < jobs_in size
    → taillard.refuses (size ∷ rows) written ≡ times_row_fault (machines_in size) written
times_refused size rows written h = rw (lt-ltb (length rows) (jobs_in size) h) refl

-- the rows of times are all there
pub times_there : (j : ℕ) (times : List (Vec ℕ Global)) (rows : List Row) → map items_of times ≡ take j rows
    → j ≤ length times → j ≤ length rows
times_there j times rows e h = grind (arith, common_steps, length-map, length-take)

-- there are as many jobs as rows of machines
pub jobs_there : (j : ℕ) (jobs : List Job) (rows : List Row) → j ≤ length rows → length jobs < j
    → map job_as_given jobs ≡ map taillard_job (zip (take j rows) (drop j rows)) → length (drop j rows) ≡ length jobs
jobs_there j jobs rows all room e = grind (arith, common_steps, length-map, length-zip, length-take-le)

matrices_push : (j : ℕ) (jobs : List Job) (job : Job) (rows : List Row) (held written : Row) → j ≤ length rows
    → length jobs < j → map job_as_given jobs ≡ map taillard_job (zip (take j rows) (drop j rows))
    → held ≡ get_or (take j rows) (length jobs) [] → job_as_given job ≡ taillard_job (held, written)
    → map job_as_given (jobs ++ job ∷ [])
    ≡ map taillard_job (zip (take j (rows ++ written ∷ [])) (drop j (rows ++ written ∷ [])))
matrices_push j jobs job rows held written all room e at is =
    let len = jobs_there j jobs rows all room e
    in let more : zip (take j rows) (drop j rows ++ written ∷ [])
    ≡ zip (take j rows) (drop j rows) ++ (held, written) ∷ [] =
    zip_push (take j rows) (drop j rows) held written (omega (arith, length-take-le j rows all))
    (at ∙ ap (λ (k : ℕ). get_or (take j rows) k []) (sym len))
    in job_pushed jobs job (map taillard_job (zip (take j rows) (drop j rows))) (taillard_job (held, written)) e is
    ∙ sym (map-append taillard_job (zip (take j rows) (drop j rows)) ((held, written) ∷ []))
    ∙ ap (map taillard_job) (sym more)
    ∙ rw (take-append-le j rows (written ∷ []) all, drop-append-le j rows (written ∷ []) all) refl

-- a row of machines behind the rows of times
pub matrices_judged : (times : List (Vec ℕ Global)) (jobs : List Job) (machines n : ℕ) (held row : Row)
    (r : Result Job ReadFault) → machines ≤ 100
    → JudgesRow r n (machines_row_fault machines row) (λ job. job_as_given job ≡ taillard_job (held, row))
    → (size : Row) (rows : List Row) (written : Row) → machines ≡ machines_in size → jobs_in size ≤ length times
    → length jobs < jobs_in size → map items_of times ≡ take (jobs_in size) rows
    → map job_as_given jobs ≡ map taillard_job (zip (take (jobs_in size) rows) (drop (jobs_in size) rows))
    → held ≡ get_or (map items_of times) (length jobs) [] → row ≡ map capped written
    → JudgesRow r n (taillard.refuses (size ∷ rows) written)
    (λ job. map job_as_given (jobs ++ job ∷ []) ≡ jobs_drafted Taillard ((size ∷ rows) ++ written ∷ []))
matrices_judged times jobs machines n held row r few h size rows written em all_times room et ej at er =
    grind (arith, times_there, machines_capped, machines_refused, judged_on, matrices_push, machines_same)

-- the times held, in the words of the grammar
pub held_at : (times : List (Vec ℕ Global)) (k : ℕ) (row : Vec ℕ Global) → k < length times → row ≡ get_or times k row
    → row.items ≡ get_or (map items_of times) k []
held_at times k row h e = ap items_of e ∙ sym (get_or-map items_of times k row [] h)

-- the job of a row, for a draft as it stands
abbrev IsNextJob : Format → Draft → ℕ → Row → Result Job ReadFault → Type 0
IsNextJob p draft n row r =
    (rows : List Row) (written : Row) → IsDraft p draft rows → row ≡ map capped written
    → JudgesRow r n ((grammar_of p).refuses rows written)
    (λ job. map job_as_given (draft.jobs.items ++ job ∷ []) ≡ jobs_drafted p (rows ++ written ∷ []))

pub orlib_next : (draft : Draft) (n : ℕ) (row : Row) (r : Result Job ReadFault) → 0 < draft.jobs_wanted
    → JudgesRow r n (orlib_fault draft.machines row) (λ job. job_as_given job ≡ orlib_job row)
    → IsNextJob Orlib draft n row r
orlib_next draft n row r some h [] written d e = absurd (omega arith)
orlib_next draft n row r some h (size ∷ rows) written d e =
    row_judged orlib_fault orlib_job orlib_capped orlib_same draft.jobs.items draft.machines n row r
    draft.within.few_machines h size rows written d.machines d.jobs e

pub routes_next : (draft : Draft) (n : ℕ) (row : Row) (r : Result Job ReadFault) → 0 < draft.jobs_wanted
    → JudgesRow r n (routes_fault draft.machines row) (λ job. job_as_given job ≡ routes_job row)
    → IsNextJob Routes draft n row r
routes_next draft n row r some h [] written d e = absurd (omega arith)
routes_next draft n row r some h (size ∷ rows) written d e =
    row_judged routes_fault routes_job routes_capped routes_same draft.jobs.items draft.machines n row r
    draft.within.few_machines h size rows written d.machines d.jobs e

pub taillard_next : (draft : Draft) (n : ℕ) (held row : Row) (r : Result Job ReadFault) → 0 < draft.jobs_wanted
    → draft.jobs_wanted ≤ length draft.times.items
    → held ≡ get_or (map items_of draft.times.items) (length draft.jobs.items) []
    → JudgesRow r n (machines_row_fault draft.machines row) (λ job. job_as_given job ≡ taillard_job (held, row))
    → IsNextJob Taillard draft n row r
taillard_next draft n held row r some all at h [] written d e = absurd (omega arith)
taillard_next draft n held row r some all at h (size ∷ rows) written d e =
    let room = draft.within.room some
    in let wanted = d.wanted
    in matrices_judged draft.times.items draft.jobs.items draft.machines n held row r draft.within.few_machines h size
    rows
    written d.machines (omega arith) (omega arith) d.times d.jobs at e

-- ---- how many rows there are

-- in `taillard`, by the rows of times and the jobs
pub taillard_lens : (draft : Draft) (size : Row) (rows : List Row) → HoldsRows Taillard draft size rows
    → (length draft.times.items ≡ min draft.jobs_wanted (length rows)) × (length rows
    ≡ length draft.times.items + length draft.jobs.items)
taillard_lens draft size rows d = grind (arith, common_steps, length-map, length-take, length-drop, length-zip)

pub skips_full : (draft : Draft) → 0 < length draft.times.items → length draft.jobs.items ≡ 0 → (rows : List Row)
    → IsDraft Taillard draft rows → eqb (length draft.times.items) draft.jobs_wanted ≡ taillard.skips rows
skips_full draft some none x d = grind (arith, common_steps, taillard_lens, ne_eqb)

pub skips_not : (draft : Draft) → 0 < length draft.jobs.items → (rows : List Row) → IsDraft Taillard draft rows
    → false ≡ taillard.skips rows
skips_not draft some x d = grind (arith, common_steps, taillard_lens, ne_eqb)
