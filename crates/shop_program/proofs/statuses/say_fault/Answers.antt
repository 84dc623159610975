use Rattle.std.proofs.Common.{rules}
use Rattle.shop_program.proofs.statuses.say_fault.Goals as goal

pub returns-in-ReadFailed : goal.returns-in-ReadFailed
returns-in-ReadFailed g c = search rules
