use Rattle.shop_nodes.proofs.Found.{searches_keep}
use Rattle.shop_nodes.proofs.laws.searches_lose_no_table.Goals as goal

pub returns : goal.returns
returns c = searches_keep
