use Rattle.shop_engine.proofs.RefusedTexts.{listing_refuses, checking_refuses, solving_refuses}
use Rattle.shop_engine.proofs.laws.refused_texts_are_answered.Goals as goal

pub returns : goal.returns
returns c = record { list = listing_refuses; check = checking_refuses; solve = solving_refuses }
