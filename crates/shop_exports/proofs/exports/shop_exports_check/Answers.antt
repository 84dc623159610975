use Rattle.std.{proofs.Common.{ℕ, List, Option, inr, subst, ap, ◌∙◌}, specs.Option.option_copied}
use Rattle.shop_exports.{specs.Exports.ChecksWith, proofs.Calls.{check_served, check_refused, given_is}}
use Rattle.shop_exports.proofs.exports.shop_exports_check.Goals as goal

pub returns-in-Ok-check_bytes : goal.returns-in-Ok-check_bytes
returns-in-Ok-check_bytes c = inr (
  c.in-Ok.args,
  c.in-Ok.ensures.asked,
  subst (λ (s : Option (List ℕ)). ChecksWith c.in-Ok.args c.args.text.now c.args.room.now c.give.new.room s
      c.give.result) (ap option_copied c.then_some.ensures ∙ given_is c.args.is_apart c.args.schedule)
      (check_served c.in-Ok.args (option_copied c.then_some.result) c.in-Ok-check_bytes.ensures.check
      c.as_slice.ensures.value c.give.ensures),
)

pub returns : goal.returns
returns c = inr (
  c.in-Ok.args,
  c.in-Ok.ensures.asked,
  subst (λ (s : Option (List ℕ)). ChecksWith c.in-Ok.args c.args.text.now c.args.room.now c.args.room.now s
      c.refused.result) (ap option_copied c.then_some.ensures ∙ given_is c.args.is_apart c.args.schedule)
      (check_refused c.in-Ok.args (option_copied c.then_some.result) c.in-Err-check_bytes.fault
      c.in-Err-check_bytes.ensures.refused c.refused.ensures),
)
