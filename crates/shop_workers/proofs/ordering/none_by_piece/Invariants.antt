use Rattle.std.proofs.Common.{◌≡◌, vec_len}
use Rattle.shop_runs.specs.Entries.{told}
use Rattle.shop_workers.specs.inner.Gathered.{AreByPiece}
use Rattle.shop_workers.proofs.ordering.none_by_piece.Given as goal

abbrev pub invariant-loop : goal.invariant-loop
invariant-loop l = (vec_len l.by_piece ≡ l.counter) × AreByPiece (told l.round) l.by_piece.items
