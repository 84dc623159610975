use Rattle.shop_bound.proofs.SmallSums.{sums_small}
use Rattle.shop_bound.proofs.laws.sums_stay_small.Goals as goal

pub returns : goal.returns
returns c = λ shop w limits word. sums_small shop limits w word
