use Rattle.std.proofs.Common.{◌≡◌, vec_len}
use Rattle.shop_runs.specs.{Crews.IsEntryOf, Entries.told}
use Rattle.shop_workers.{specs.inner.Gathered.AreByPiece, proofs.ByPiece.{UpTo, IsKept, AreLeftFrom}}
use Rattle.shop_workers.proofs.ordering.complete.Given as goal

abbrev pub invariant-loop-number : goal.invariant-loop-number
invariant-loop-number g l =
    let searched = g.P.PieceSearch.searched in let r = told (searched l.initial.searcher) in
    (vec_len l.by_piece ≡ vec_len l.initial.by_piece) × AreByPiece r l.by_piece.items × (vec_len l.entries ≡ l.number)
    × UpTo (IsEntryOf r) l.entries.items l.number × (searched l.searcher ≡ searched l.initial.searcher)
    × AreLeftFrom l.number l.initial.by_piece.items l.by_piece.items
    × UpTo (IsKept l.initial.by_piece.items) l.entries.items l.number
