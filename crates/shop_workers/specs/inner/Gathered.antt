-- What the workers of a round bring: a list with the entry of each piece at its number, if there is one.
--     AllOfRound round lists     the entries of each worker that wasn't refused memory are of this round
--     AreByPiece round by_piece  an entry that stands at a number is that of the piece of this number
--     Fills by_piece e           there is an entry at the number of this one, if the list has that number
--     StayFilled before after    each number that had an entry still has one
--     HasFilled by_piece b       `Fills` of each entry of a worker that wasn't refused memory
--     AreKept by_piece entries   an entry that stands at a number is kept
use Rattle.std.specs.Prelude.{◌≡◌, ℕ, ◌<◌, List, length, All, Option, Some, None, IsSome, IfSome, IfOk, slice_index_or}
use Rattle.shop_runs.specs.{Round.Told, Crews.IsEntryOf, Entries.number_of, declared.entries.Entry.Entry}
use Rattle.shop_workers.specs.Entries.{OfRound, Brought}

abbrev pub AllOfRound : Told → List Brought → Type 0
AllOfRound r lists = All (λ (l : Brought). IfOk l (λ v. OfRound r v.items)) lists

abbrev pub AreByPiece : Told → List (Option Entry) → Type 0
AreByPiece r by_piece = (n : ℕ) (d : Option Entry) → n < length by_piece
    → IfSome (slice_index_or by_piece n d) (λ e. IsEntryOf r n e)

abbrev pub IsFilled : List (Option Entry) → ℕ → Type 0
IsFilled by_piece n = n < length by_piece → IsSome (slice_index_or by_piece n None)

abbrev pub Fills : List (Option Entry) → Entry → Type 0
Fills by_piece e = IsFilled by_piece (number_of e.kind)

abbrev pub StayFilled : List (Option Entry) → List (Option Entry) → Type 0
StayFilled before after = (n : ℕ) → IsFilled before n → IsFilled after n

abbrev pub HasFilled : List (Option Entry) → Brought → Type 0
HasFilled by_piece b = IfOk b (λ v. All (Fills by_piece) v.items)

abbrev pub AreKept : List (Option Entry) → List Entry → Type 0
AreKept by_piece es = (n : ℕ) (e : Entry) → n < length by_piece
    → slice_index_or by_piece n None ≡ Some e → slice_index_or es n e ≡ e
