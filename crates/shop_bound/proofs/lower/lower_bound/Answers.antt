use Rattle.std.proofs.Common.{◌∙◌, sym, arith}
use Rattle.shop_model.specs.Word.{placing}
use Rattle.shop_bound.proofs.{BoundLaw.{lb-le-end, full_word}, LowerBounds.lower_bound_is, SmallSums.sums_small}
use Rattle.shop_bound.proofs.lower.lower_bound.Goals as goal

pub returns-clause-bound : goal.returns-clause-bound
returns-clause-bound c =
    let shop = c.args.instance.now in let w = c.args.word.now
    in c.bound.ensures.bound (placing shop w) c.in_ok-placement.ensures
    ∙ lower_bound_is shop w c.keeps_limits.ensures c.requires

pub returns-clause-lower : goal.returns-clause-lower
returns-clause-lower c = grind (arith, (returns-clause-bound c), lb-le-end)

pub returns-clause-full : goal.returns-clause-full
returns-clause-full c = λ full.
    let ends = full_word c.args.instance.now c.args.word.now full in (ends, returns-clause-bound c ∙ sym ends.ends)

pub returns-clause-small : goal.returns-clause-small
returns-clause-small c =
    let a = (sums_small c.args.instance.now c.keeps_limits.ensures c.args.word.now c.requires).bound
    in let e = returns-clause-bound c in omega arith
