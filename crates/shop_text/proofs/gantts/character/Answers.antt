use Rattle.std.proofs.{Common.rules, lemmas.List.{get_or_default, get_or_past}}
use Rattle.shop_text.proofs.gantts.character.Goals as goal

pub returns-then-j-lt62 : goal.returns-then-j-lt62
returns-then-j-lt62 c = search (rules, get_or_default)

pub returns-else-j-lt62 : goal.returns-else-j-lt62
returns-else-j-lt62 c = search (rules, get_or_past)
