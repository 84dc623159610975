use Rattle.std.proofs.{Common.{◌≡◌, inl, inr, arith, refl}, lemmas.Bool.{cases_lt, false≢true}}
use Rattle.shop_model.{specs.Checking.starts_of, proofs.Ends.{IsOperation-job, in_time-later}}
use Rattle.shop_model.proofs.overlaps.is_job_apart.Goals as goal

pub returns : goal.returns
returns c = (
  λ _ k i l op other before. elim before [
    | inl h ↦ c.loop-i.invariant k i l op h (let a = IsOperation-job c.args.instance.now i l other in omega arith) other
    | inr h ↦ (λ _. inl (rw (← h.0)
        (in_time-later c.args.instance.now (starts_of c.args.table.now) c.requires.in_time c.args.j k l h.1
        (rw (← h.0) at other))))
  ],
  λ _. refl,
)

pub returns-then-not-are_clear : goal.returns-then-not-are_clear
returns-then-not-are_clear c = (
  λ no. absurd (false≢true no),
  λ apart. c.if-not-are_clear.ensures.1
      (rw (c.route-route.ensures.route, c.row-row.ensures.row, c.route.ensures.route, c.row.ensures.row)
      (λ k l here there. apart k c.loop-i.i l here there (inl (omega (arith, c.loop-i.auto.i))))),
)

pub loop-i-preserved : goal.loop-i-preserved
loop-i-preserved c k i l here after below there = elim (cases_lt i c.loop-i.i) [
  | inl h ↦ c.loop-i.invariant k i l here after h there
  | inr h ↦ (let same : i ≡ c.loop-i.i = omega arith in let clear = c.if-not-are_clear.ensures.0 refl
      in rw same ((rw (c.route-route.ensures.route, c.row-row.ensures.row, c.route.ensures.route, c.row.ensures.row)
      at clear) k l here (rw same at there)))
]
