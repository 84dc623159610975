use Rattle.std.proofs.Common.{◌+◌, arith}
use Rattle.shop_runs.proofs.BoundRowLemmas.{count_bucket, not_more}
use Rattle.shop_runs.proofs.bound_rows.bucket_behind.Goals as goal

pub returns-then-most-count-clause-behind : goal.returns-then-most-count-clause-behind
returns-then-most-count-clause-behind c = grind (arith, count_bucket)

pub returns-then-most-count-clause-count : goal.returns-then-most-count-clause-count
returns-then-most-count-clause-count c =
    let most = not_more (c.loop-index.index + 1) c.args.stacks.now
    in grind (arith, count_bucket)

pub returns-clause-count : goal.returns-clause-count
returns-clause-count c =
    let most = not_more c.loop-index.index c.args.stacks.now
    in grind arith

pub loop-index-preserved : goal.loop-index-preserved
loop-index-preserved c = grind (arith, count_bucket)
