use Rattle.shop_engine.proofs.ReportedAnswers.{reports_tell_the_answer}
use Rattle.shop_engine.proofs.laws.reports_tell_the_answer.Goals as goal

pub returns : goal.returns
returns c = reports_tell_the_answer
