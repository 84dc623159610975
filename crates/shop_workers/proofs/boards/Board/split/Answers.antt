use Rattle.std.proofs.Common.{rules}
use Rattle.shop_workers.proofs.SeatCounts.{splits}
use Rattle.shop_workers.proofs.boards.Board.split.Goals as goal

pub split_seat-other-requires : goal.split_seat-other-requires
split_seat-other-requires c = search (rules, splits)

pub returns-clause-first : goal.returns-clause-first
returns-clause-first c = search rules
