-- One turn of a worker at a piece.
--     IsHandledEntry r n w e    the entry is of piece n, and handled
--     IsAhead v n kind          a piece that was searched isn't behind one that the seat had read or marked
--     TakesTurn r n v w o       there is an entry of piece n just where the seat won it
--     IsRestKnown n w by_piece  each piece below n that has no entry is claimed, as far as the seat knows
use Rattle.std.specs.Prelude.{◌≡◌, ℕ, ◌<◌, ◌≤◌, List, ◌∷◌, Option, MatchOption, None, IfNone, slice_index_or}
use Rattle.shop_runs.specs.{Round.Told, Crews.IsEntryOf, declared.entries.Entry.Entry, declared.entries.Kind.Kind}
use Rattle.shop_runs.specs.declared.entries.Kind.TheVariants.{Done, Passed}
use Rattle.shop_workers.specs.{declared.views.View.View, Moves.IsAtMostMarked, Works.{IsKnown, IsHandled}}

abbrev pub IsRestKnown : ℕ → View → List (Option Entry) → Type 0
IsRestKnown pieces w by_piece = (n : ℕ) → n < pieces → IfNone (slice_index_or by_piece n None) (IsKnown w n)

abbrev pub IsHandledEntry : Told → ℕ → View → Entry → Type 0
IsHandledEntry r n w e = IsEntryOf r n e × IsHandled r w e.kind

abbrev pub IsAhead : View → ℕ → Kind → Type 0
IsAhead v n (Done sheet) = (n ≤ v.low) × IsAtMostMarked v n
IsAhead v n (Passed number by') = Unit {0}

abbrev pub TakesTurn : Told → ℕ → View → View → Option Entry → Type 0
TakesTurn r n v w o = MatchOption o (w.mine ≡ v.mine)
    (λ e. (w.mine ≡ n ∷ v.mine) × IsHandledEntry r n w e × IsAhead v n e.kind)
