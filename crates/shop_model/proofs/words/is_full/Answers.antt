use Rattle.std.proofs.Common.{true≢false, refl, arith}
use Rattle.shop_model.proofs.WordLemmas.{word_jobs, full_from, full_is_word}
use Rattle.shop_model.proofs.words.is_full.Goals as goal

pub returns-then-not-are_below : goal.returns-then-not-are_below
returns-then-not-are_below c = grind (arith, true≢false, word_jobs, full_is_word)

pub returns : goal.returns
returns c = (
  λ _. full_from c.args.instance.now c.args.word.now
      (rw c.jobs.ensures at (c.are_below.ensures.0 c.if-not-are_below.false))
      (λ i below. c.loop-j.invariant i (omega arith)),
  λ _. refl,
)
