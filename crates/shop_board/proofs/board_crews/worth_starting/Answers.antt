use Rattle.std.proofs.{Common.{◌*◌, arith}, lemmas.Nat.mul-le}
use Rattle.shop_board.proofs.board_crews.worth_starting.Goals as goal

pub overflow_mul-work : goal.overflow_mul-work
overflow_mul-work c =
    let round = c.args.round.now in let few = round.few_pieces in let pieces = round.pieces.ok.0
    in let nodes = mul-le round.budget c.len.result 10000000 256 round.small_budget (omega (arith, c.len.ensures))
    in omega (arith, mul-le (round.budget * c.len.result) _ 2560000000 100000 nodes c.operations.ensures.limit)

pub overflow_add-others : goal.overflow_add-others
overflow_add-others c = let small = overflow_mul-work c in omega arith
