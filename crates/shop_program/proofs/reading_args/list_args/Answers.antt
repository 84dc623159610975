use Rattle.std.proofs.Common.{rules}
use Rattle.shop_program.proofs.reading_args.list_args.Goals as goal

pub returns : goal.returns
returns c = search rules
