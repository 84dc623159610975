use Rattle.std.proofs.Common.{◌≡◌, vec_len}
use Rattle.shop_runs.specs.Entries.{told}
use Rattle.shop_workers.specs.{Entries.OfRound, inner.Gathered.{AreByPiece, Fills, StayFilled}}
use Rattle.shop_workers.proofs.TakenLists.{AreThrough}
use Rattle.shop_workers.proofs.ordering.put_each.Given as goal

abbrev pub invariant-loop-entry : goal.invariant-loop-entry
invariant-loop-entry l =
    (vec_len l.by_piece ≡ vec_len l.initial.by_piece) × AreByPiece (told l.round) l.by_piece.items
    × OfRound (told l.round) l.entries.items × StayFilled l.initial.by_piece.items l.by_piece.items
    × AreThrough (Fills l.by_piece.items) l.initial.entries.items l.entries.items

abbrev pub decreases-loop-entry : goal.decreases-loop-entry
decreases-loop-entry l = vec_len l.entries
