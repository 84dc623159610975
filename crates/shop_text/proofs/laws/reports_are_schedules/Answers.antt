use Rattle.shop_text.proofs.ReportReading.{reports_are_schedules}
use Rattle.shop_text.proofs.laws.reports_are_schedules.Goals as goal

pub returns : goal.returns
returns c = reports_are_schedules
