use Rattle.shop_text.proofs.{TableReadings.one_table, FaultAnswers.table_answered}
use Rattle.shop_text.proofs.laws.table_faults_are_answered.Goals as goal

pub returns : goal.returns
returns c = λ shop. table_answered shop (one_table shop)
