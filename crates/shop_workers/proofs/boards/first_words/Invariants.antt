use Rattle.std.proofs.Common.{◌≡◌, replicate}
use Rattle.shop_workers.proofs.boards.first_words.Given as goal

abbrev pub invariant-loop : goal.invariant-loop
invariant-loop l = l.words.items ≡ replicate l.counter 0
