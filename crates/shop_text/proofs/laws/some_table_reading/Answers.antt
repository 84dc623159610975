use Rattle.shop_text.proofs.TableReadings.{some_table}
use Rattle.shop_text.proofs.laws.some_table_reading.Goals as goal

pub returns : goal.returns
returns c = some_table
