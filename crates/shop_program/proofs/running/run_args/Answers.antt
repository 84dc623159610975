use Rattle.std.proofs.Common.{rules}
use Rattle.shop_program.proofs.running.run_args.Goals as goal

pub returns-in-Some : goal.returns-in-Some
returns-in-Some g c = search rules
