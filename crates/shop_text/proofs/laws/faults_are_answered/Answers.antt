use Rattle.shop_text.{specs.Formats.grammar_of, proofs.{ReaderTurns.one_reading, FaultAnswers.answered}}
use Rattle.shop_text.proofs.laws.faults_are_answered.Goals as goal

pub returns : goal.returns
returns c = λ format. answered (grammar_of format) (one_reading format)
