use Rattle.std.proofs.Common.{rules}
use Rattle.shop_program.proofs.running.program.Goals as goal

pub returns-in-Ok-run_args : goal.returns-in-Ok-run_args
returns-in-Ok-run_args g c = search rules
