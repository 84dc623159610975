use Rattle.std.proofs.Common.{rules, true≢false, refl, arith}
use Rattle.shop_model.proofs.WordLemmas.{word_jobs, word_from}
use Rattle.shop_model.proofs.words.fits.Goals as goal

pub returns-then-not-are_below : goal.returns-then-not-are_below
returns-then-not-are_below c = grind (arith, true≢false, word_jobs)

pub returns : goal.returns
returns c = (
  λ _. word_from c.args.instance.now c.args.word.now
      (rw c.jobs.ensures at (c.are_below.ensures.0 c.if-not-are_below.false))
      (λ i below. c.loop-j.invariant i (omega arith)),
  λ _. refl,
)

pub loop-j-preserved : goal.loop-j-preserved
loop-j-preserved c = search rules
