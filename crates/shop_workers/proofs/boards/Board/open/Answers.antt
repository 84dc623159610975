use Rattle.std.proofs.{Common.{ℕ, ◌∙◌, ap, arith, length, replicate}, lemmas.List.{length-replicate, length_push}}
use Rattle.shop_runs.proofs.RoundPieces.{hits_length}
use Rattle.shop_workers.proofs.SeatCounts.{begins_at}
use Rattle.shop_workers.proofs.boards.Board.open.Goals as goal

pub of_words-requires : goal.of_words-requires
of_words-requires c = grind (arith, begins_at, hits_length)

pub invariant_of-result : goal.invariant_of-result
invariant_of-result c =
    let same = ap length (c.deref.ensures.value ∙ c.in_ok-words.ensures) in let table = c.in_ok-table.ensures in
    let long = length_push (replicate {A = ℕ} c.len.result 0) c.len.result in
    let zeros = length-replicate {A = ℕ} c.len.result 0 in let hits = hits_length c.args.round.now in record {
      words = omega (arith, same, long, zeros, table.0, ap length table.5, hits, c.len.ensures);
      no_slots = table.1;
    }
