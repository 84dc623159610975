use Rattle.std.proofs.Common.{inr}
use Rattle.shop_exports.proofs.Calls.{solve_served, solve_refused}
use Rattle.shop_exports.proofs.exports.shop_exports_solve.Goals as goal

pub returns-in-Ok-solve_bytes : goal.returns-in-Ok-solve_bytes
returns-in-Ok-solve_bytes c =
    let done = c.in-Ok-solve_bytes.ensures
    in inr (
      c.in-Ok.args,
      c.in-Ok.ensures.asked,
      solve_served c.in-Ok.args done.right done.determined done.schedule c.as_slice.ensures.value c.give.ensures,
    )

pub returns : goal.returns
returns c = inr (
  c.in-Ok.args,
  c.in-Ok.ensures.asked,
  solve_refused c.in-Ok.args c.in-Err-solve_bytes.fault c.in-Err-solve_bytes.ensures.refused c.refused.ensures,
)
