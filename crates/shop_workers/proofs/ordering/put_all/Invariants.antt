use Rattle.std.{proofs.Common.{◌≡◌, length, vec_len}, specs.Prelude.IsOk}
use Rattle.shop_runs.specs.Entries.{told}
use Rattle.shop_workers.specs.{Entries.Brought, inner.Gathered.{AllOfRound, HasFilled, AreByPiece}}
use Rattle.shop_workers.proofs.TakenLists.{AreThrough}
use Rattle.shop_workers.proofs.ordering.put_all.Given as goal

abbrev pub invariant-loop-entries : goal.invariant-loop-entries
invariant-loop-entries l =
    (vec_len l.by_piece ≡ length l.round.pieces.items) × AreByPiece (told l.round) l.by_piece.items
    × AllOfRound (told l.round) l.brought.items
    × AreThrough (λ (b : Brought). IsOk b) l.initial.brought.items l.brought.items
    × AreThrough (HasFilled l.by_piece.items) l.initial.brought.items l.brought.items

abbrev pub decreases-loop-entries : goal.decreases-loop-entries
decreases-loop-entries l = vec_len l.brought
