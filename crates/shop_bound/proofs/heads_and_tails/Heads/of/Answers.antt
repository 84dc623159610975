use Rattle.std.proofs.Common.{◌≡◌, length, arith}
use Rattle.shop_model.specs.Word.{placing}
use Rattle.shop_bound.proofs.{Filled.rows_more, HeadTurns.rows_tell}
use Rattle.shop_bound.proofs.heads_and_tails.Heads.of.Goals as goal

pub loop-j-preserved : goal.loop-j-preserved
loop-j-preserved c = grind (arith, rows_more)

pub returns : goal.returns
returns c =
    let shop = c.args.instance.now
    in let all : c.loop-j.j ≡ length shop.jobs = (let a = c.loop-j-test.false in let b = c.jobs-j-end.ensures
    in omega arith)
    in rows_tell shop (placing shop c.args.word.now) _ (rw (← all) c.loop-j.invariant.filled)
