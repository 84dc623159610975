use Rattle.std.proofs.{Common.{◌≡◌, length, vec_len, arith, refl, sym, ◌∙◌}, lemmas.Result.err_from_is_err_and}
use Rattle.shop_text.proofs.DraftTurns.{size_failed, times_failed, times_accepted, job_taken}
use Rattle.shop_text.proofs.instance_drafts.Draft.take_row.Goals as goal

pub returns-in_err-jobs : goal.returns-in_err-jobs
returns-in_err-jobs c =
    let p = err_from_is_err_and c.from_residual.result c.from_residual.ensures.1
    in rw (p.1, p.2) (size_failed c.args.format c.args.self.now c.args.line c.args.row.now
    c.in_err-jobs.field-0.0 c.if-self-eq0.true
    c.in_err-jobs.ensures.judged)

pub returns-in_err-times : goal.returns-in_err-times
returns-in_err-times c =
    let p = err_from_is_err_and c.from_residual-in_err-times.result c.from_residual-in_err-times.ensures.1
    in let draft = c.args.self.now
    in let len : length draft.times.items ≡ vec_len draft.times = omega (arith, draft.times.ok.0)
    in rw (p.1, p.2) (times_failed c.args.format draft c.args.line c.args.row.now c.in_err-times.field-0.0 (omega arith)
    (rw len (sym c.wants_times.ensures ∙ c.if-wants_times.true)) c.in_err-times.ensures.judged)

pub returns-then-wants_times : goal.returns-then-wants_times
returns-then-wants_times c =
    let draft = c.args.self.now
    in let len : length draft.times.items ≡ vec_len draft.times = omega (arith, draft.times.ok.0)
    in times_accepted c.args.format draft _ c.args.row.now c.in_ok-times.times (omega arith)
    (rw len (sym c.wants_times.ensures ∙ c.if-wants_times.true)) c.in_ok-times.ensures.judged.0
    c.in_ok-times.ensures.judged.1 refl refl refl c.in_ok-push.ensures.items

pub returns : goal.returns
returns c = grind (arith, vec_len, job_taken)
