use Rattle.std.proofs.Common.{rules}
use Rattle.shop_model.proofs.words.Word.copied.Goals as goal

pub returns-in_ok-to_vec-in-Listed : goal.returns-in_ok-to_vec-in-Listed
returns-in_ok-to_vec-in-Listed c = search rules
