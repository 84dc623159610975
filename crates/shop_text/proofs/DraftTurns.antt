-- What comes of a number line: a size line, a row of times, or the row of a job.
use Rattle.std.proofs.{lemmas.Grind.common_steps, Common.{Some, None, Result, Ok, Err, Vec, ◌∙◌, arith, ◌≡◌, ℕ, ◌<◌}}
use Rattle.std.proofs.Common.{◌≤◌, true, false, eqb, List, [], ◌∷◌, ◌++◌, length, map, take, drop, Option}
use Rattle.std.proofs.lemmas.{Bool.{ltb-true, ltb-false, eq-eqb, ne_eqb}, List.{map-append, length-append, take_all}}
use Rattle.std.{proofs.lemmas.List.{drop_all, take-append-le}, specs.{List.zip, declared.alloc.Global.Global}}
use Rattle.shop_model.specs.{declared.ops.Job.Job, Shop.Shop, Given.job_as_given}
use Rattle.shop_text.specs.{Formats.{grammar_of, jobs_in, taillard_job}, Grammar.Row, declared.formats.Format.Format}
use Rattle.shop_text.specs.{inner.LineReading.{capped, Fails, times_row_fault}, inner.Drafts.{IsOneMore, TakesRow}}
use Rattle.shop_text.specs.inner.Drafts.{jobs_drafted, HoldsTimes, HoldsRows, IsDraft, wants_times, PushesJob}
use Rattle.shop_text.specs.{declared.instance_drafts.Draft.Draft, declared.faults.ReadFault.ReadFault}
use Rattle.shop_text.specs.declared.formats.Format.TheVariants.{Orlib, Taillard, Routes}
use Rattle.shop_text.proofs.Capping.{size_line_capped, times_capped, times_same}
use Rattle.shop_text.proofs.DraftLemmas.{zip_none, times_refused, times_there, taillard_lens}

-- ---- a size line

pub size_failed : (p : Format) (draft : Draft) (n : ℕ) (row : Row) (e : ReadFault) → draft.jobs_wanted ≡ 0
    → Fails e n ((grammar_of p).refuses [] row) → (rows : List Row) (written : Row)
    → IsDraft p draft rows → row ≡ map capped written → Fails e n ((grammar_of p).refuses rows written)
size_failed p draft n row e none h x written d er = grind (arith, size_line_capped)

-- ---- a row of times

pub times_failed : (p : Format) (draft : Draft) (n : ℕ) (row : Row) (e : ReadFault) → 0 < draft.jobs_wanted
    → wants_times p draft.jobs_wanted (length draft.times.items) ≡ true
    → Fails e n (times_row_fault draft.machines row) → (rows : List Row) (written : Row) → IsDraft p draft rows
    → row ≡ map capped written → Fails e n ((grammar_of p).refuses rows written)
times_failed x draft n row e some w h rows written d er =
    grind (arith, common_steps, ltb-true, taillard_lens, times_capped, times_refused)

-- a row of times more
record IsTimesMore (old new : Draft) (row : Vec ℕ Global) : Type 0 where
  wanted : new.jobs_wanted ≡ old.jobs_wanted
  machines : new.machines ≡ old.machines
  jobs : new.jobs ≡ old.jobs
  times : new.times.items ≡ old.times.items ++ row ∷ []

no_matrices : (j : ℕ) (rows : List Row) → length rows ≤ j → map taillard_job (zip (take j rows) (drop j rows)) ≡ []
no_matrices j rows h = grind (arith, common_steps, drop_all, zip_none)

times_taken : (old new : Draft) (row : Row) (taken : Vec ℕ Global) (size : Row) (rows : List Row) (written : Row)
    → IsTimesMore old new taken → length rows < jobs_in size → times_row_fault old.machines row ≡ None
    → taken.items ≡ row → HoldsRows Taillard old size rows → row ≡ map capped written
    → IsOneMore Taillard (size ∷ rows) written new
times_taken old new row taken size rows written more few free is d er =
    grind (arith, length-append, times_capped, times_same, times_refused, ne_eqb, map-append, take_all, no_matrices)

pub times_accepted : (p : Format) (old new : Draft) (row : Row) (taken : Vec ℕ Global) → 0 < old.jobs_wanted
    → wants_times p old.jobs_wanted (length old.times.items) ≡ true → times_row_fault old.machines row ≡ None
    → taken.items ≡ row → new.jobs_wanted ≡ old.jobs_wanted → new.machines ≡ old.machines → new.jobs ≡ old.jobs
    → new.times.items ≡ old.times.items ++ taken ∷ [] → (rows : List Row) (written : Row) → IsDraft p old rows
    → row ≡ map capped written → IsOneMore p rows written new
times_accepted Orlib old new row taken some w free is ew em ej et rows written d er = absurd cc
times_accepted Routes old new row taken some w free is ew em ej et rows written d er = absurd cc
times_accepted Taillard old new row taken some w free is ew em ej et [] written d er = absurd (omega arith)
times_accepted Taillard old new row taken some w free is ew em ej et (size ∷ rows) written d er =
    let few = ltb-true (length old.times.items) old.jobs_wanted w
    in let lens = taillard_lens old size rows d
    in let wanted = d.wanted
    in times_taken old new row taken size rows written (record { wanted = ew; machines = em; jobs = ej; times = et })
    (omega (arith, lens.0)) free is d er

-- ---- the row of a job

-- whether the part is whole
whole_after : (p : Format) (draft : Draft) (job : Job) (size : Row) (rows : List Row) (written : Row)
    → HoldsRows p draft size rows → wants_times p draft.jobs_wanted (length draft.times.items) ≡ false
    → map job_as_given (draft.jobs.items ++ job ∷ []) ≡ jobs_drafted p ((size ∷ rows) ++ written ∷ [])
    → (grammar_of p).is_whole ((size ∷ rows) ++ written ∷ [])
    ≡ eqb (length (draft.jobs.items ++ job ∷ [])) draft.jobs_wanted
whole_after x draft job size rows written d w e = grind (arith, common_steps, ltb-false, taillard_lens, length-append)

times_kept : (p : Format) (old new : Draft) (size : Row) (rows : List Row) (written : Row) → HoldsRows p old size rows
    → wants_times p old.jobs_wanted (length old.times.items) ≡ false → new.times ≡ old.times
    → HoldsTimes p new size (rows ++ written ∷ [])
times_kept x old new size rows written d w e = grind (arith, ltb-false, times_there, take-append-le)

-- what the job of a row is
abbrev pub IsJobOf : Format → Draft → Job → Row → Type 0
IsJobOf p draft job row =
    (rows : List Row) (written : Row) → IsDraft p draft rows → row ≡ map capped written
    → ((grammar_of p).refuses rows written ≡ None)
    × (map job_as_given (draft.jobs.items ++ job ∷ []) ≡ jobs_drafted p (rows ++ written ∷ []))

pub job_taken : (p : Format) (old new : Draft) (job : Job) (n : ℕ) (row : Row) (r : Result (Option Shop) ReadFault)
    → 0 < old.jobs_wanted → wants_times p old.jobs_wanted (length old.times.items) ≡ false → PushesJob old new job r
    → IsJobOf p old job row → (rows : List Row) (written : Row) → IsDraft p old rows → row ≡ map capped written
    → TakesRow p rows written n new r
job_taken p old new job n row r some w push is [] written d er = absurd (omega arith)
job_taken p old new job n row (Ok None) some w push is (size ∷ rows) written d er =
    let told = is (size ∷ rows) written d er
    in let room = push.room
    in record {
      accepted = told.0;
      room = whole_after p old job size rows written d w told.1
          ∙ ne_eqb (length (old.jobs.items ++ job ∷ [])) old.jobs_wanted (λ e. omega arith);
      draft_holds = grind (arith, times_kept);
    }
job_taken p old new job n row (Ok (Some shop)) some w push is (size ∷ rows) written d er =
    let told = is (size ∷ rows) written d er
    in record {
      accepted = told.0;
      whole = whole_after p old job size rows written d w told.1
          ∙ eq-eqb (length (old.jobs.items ++ job ∷ [])) old.jobs_wanted push.full;
      shop_is = grind arith;
      draft_holds = push.fresh;
    }
job_taken p old new job n row (Err e) some w push is (size ∷ rows) written d er = grind arith
