use Rattle.shop_text.proofs.TableReadings.{one_table}
use Rattle.shop_text.proofs.laws.one_table_reading.Goals as goal

pub returns : goal.returns
returns c = one_table
