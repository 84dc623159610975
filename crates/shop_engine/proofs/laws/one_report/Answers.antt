use Rattle.shop_engine.proofs.OneReport.{one_report}
use Rattle.shop_engine.proofs.laws.one_report.Goals as goal

pub returns : goal.returns
returns c = one_report
