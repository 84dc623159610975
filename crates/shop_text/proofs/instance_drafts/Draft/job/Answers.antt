use Rattle.std.proofs.{Common.{◌≡◌, ℕ, ◌≤◌, [], length, map, get_or, ap, ◌∙◌, arith, vec_len}, lemmas.Bool.ltb-false}
use Rattle.shop_text.{specs.inner.Drafts.items_of, proofs.DraftLemmas.{orlib_next, routes_next, taillard_next, held_at}}
use Rattle.shop_text.proofs.instance_drafts.Draft.job.Goals as goal

pub returns-in-Orlib-clause-judged : goal.returns-in-Orlib-clause-judged
returns-in-Orlib-clause-judged c =
    rw c.in-Orlib.is (orlib_next c.args.self.now c.args.line c.args.row.now c.job_of_pairs.result c.requires.some
    c.job_of_pairs.ensures.judged)

pub returns-in-Routes-clause-judged : goal.returns-in-Routes-clause-judged
returns-in-Routes-clause-judged c =
    rw c.in-Routes.is (routes_next c.args.self.now c.args.line c.args.row.now c.released_job.result c.requires.some
    c.released_job.ensures.judged)

pub returns-in-Taillard-clause-judged : goal.returns-in-Taillard-clause-judged
returns-in-Taillard-clause-judged c =
    let draft = c.args.self.now
    in let all : draft.jobs_wanted ≤ vec_len draft.times =
    ltb-false (vec_len draft.times) draft.jobs_wanted (rw c.in-Taillard.is at c.requires.times)
    in let at : c.len.result ≡ length draft.jobs.items = omega (arith, draft.jobs.ok.0)
    in let room = draft.within.room c.requires.some
    in let held = held_at draft.times.items c.len.result c.index.result.now (omega (arith, draft.times.ok.0))
    c.index.ensures
    in rw c.in-Taillard.is
    (taillard_next draft c.args.line c.as_slice-times.result.now c.args.row.now c.job_of_machines.result
    c.requires.some (omega (arith, draft.times.ok.0)) (c.as_slice-times.ensures.value ∙ held
    ∙ ap (λ (k : ℕ). get_or (map items_of draft.times.items) k []) at)
    c.job_of_machines.ensures.judged)
