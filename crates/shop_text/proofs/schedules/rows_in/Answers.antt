use Rattle.std.proofs.{lemmas.{Grind.common_steps, List.length-map}, Common.{◌≡◌, inr, refl, sym, ap, ◌∙◌, length, ℕ}}
use Rattle.std.{proofs.Common.{arith, None, ◌∷◌, ◌+◌, ◌<◌}, specs.Prelude.codes}
use Rattle.shop_text.specs.{Lines.tokens_of, Schedules.row_in, inner.ScheduleReading.{rows_held, row_read}}
use Rattle.shop_text.proofs.JobLineLemmas.{bad_line, missed_line, one_more, rows_push}
use Rattle.shop_text.proofs.schedules.rows_in.Goals as goal

pub returns-in_default-2 : goal.returns-in_default-2
returns-in_default-2 c =
    let rows = c.loop-rest.rows
    in let behind = tokens_of c.in-Some.behind.now
    in let count : c.len.result ≡ length (rows_held c.loop-rest.rows) =
    c.len.ensures ∙ omega (arith, c.loop-rest.rows.ok.0, length-map c.loop-rest.rows.items (λ row. row.items))
    in let none : None ≡ row_in c.args.instance.now (length (rows_held c.loop-rest.rows))
    (codes "job" ∷ tokens_of c.in-Some.behind.now) =
    sym (ap row_read c.in_default-2.is) ∙ c.in_ok-row.ensures
    ∙ ap (λ (j : ℕ). row_in c.args.instance.now j (codes "job" ∷ tokens_of c.in-Some.behind.now)) count
    in inr (inr (
      c.loop-rest.number + 1,
      refl,
      c.requires,
      bad_line c.args.instance.now c.args.text.now c.loop-rest.number c.loop-rest.rest.now
          c.next_line.result.0.now c.next_line.result.1.now behind (rows_held rows) c.loop-rest.invariant
          c.next_line.ensures.cut c.in-Some.ensures none,
    ))

pub loop-rest-preserved : goal.loop-rest-preserved
loop-rest-preserved c = grind (arith, common_steps, length-map, rows_push, one_more)

pub returns-else-len-jobs : goal.returns-else-len-jobs
returns-else-len-jobs c =
    let rows = c.loop-rest.rows
    in let few : length (rows_held c.loop-rest.rows) < length c.args.instance.now.jobs =
    omega (
      arith,
      c.loop-rest.rows.ok.0,
      length-map c.loop-rest.rows.items (λ row. row.items),
      c.loop-rest.invariant.jobs,
      c.if-len-jobs.false,
      c.len-2.ensures,
      c.jobs-2.ensures,
    )
    in inr (inr (
      c.loop-rest.number + 1,
      refl,
      c.requires,
      missed_line c.args.instance.now c.args.text.now c.loop-rest.number c.loop-rest.rest.now
          (rows_held rows) c.loop-rest.invariant (omega arith) few,
    ))
