use Rattle.shop_text.{specs.Formats.grammar_of, proofs.{ReaderTurns.is_grammar, SomeReading.some_text}}
use Rattle.shop_text.proofs.laws.some_reading.Goals as goal

pub returns : goal.returns
returns c = λ format. some_text (grammar_of format) (is_grammar format)
