use Rattle.std.proofs.Common.{rules}
use Rattle.shop_program.proofs.files.open_given.Goals as goal

pub returns-in-Err-clause-opened : goal.returns-in-Err-clause-opened
returns-in-Err-clause-opened g c = search rules
