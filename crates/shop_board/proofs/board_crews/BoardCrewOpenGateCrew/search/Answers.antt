use Rattle.std.proofs.Common.{rules}
use Rattle.shop_board.proofs.board_crews.BoardCrewOpenGateCrew.search.Goals as goal

pub returns : goal.returns
returns c = search rules
