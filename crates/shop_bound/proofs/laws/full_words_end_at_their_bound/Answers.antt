use Rattle.shop_bound.proofs.BoundLaw.{full_word}
use Rattle.shop_bound.proofs.laws.full_words_end_at_their_bound.Goals as goal

pub returns : goal.returns
returns c = full_word
