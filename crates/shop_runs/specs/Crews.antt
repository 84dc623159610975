-- What a crew gives back.
use Rattle.std.specs.Prelude.{◌≡◌, ℕ, ◌<◌, true, false, List, length, slice_index_or}
use Rattle.shop_runs.specs.{Round.Told, Entries.{told, number_of, is_hit}, declared.entries.Entry.Entry}
use Rattle.shop_runs.specs.{declared.entries.Kind.Kind, declared.entries.Kind.TheVariants.{Done, Passed}}

-- the entry is of this round, and of its piece of this number
abbrev pub IsEntryOf : Told → ℕ → Entry → Type 0
IsEntryOf r n e = (told e.round.now ≡ r) × (number_of e.kind ≡ n)

-- one entry for each piece of the round, in number order
abbrev pub OneForEach : Told → List Entry → Type 0
OneForEach r es = (length es ≡ length r.pieces)
    × ((n : ℕ) (d : Entry) → n < length es → IsEntryOf r n (slice_index_or es n d))

-- no piece below the n-th ends at the opening bound
abbrev pub NoHitBelow : Told → ℕ → Type 0
NoHitBelow r n = (k : ℕ) → k < n → is_hit r k ≡ false

-- the n-th piece was searched where no lower one ends at the opening bound, and else was passed by the first that does
abbrev pub IsUpToHit : Told → ℕ → Kind → Type 0
IsUpToHit r n (Done s) = NoHitBelow r n
IsUpToHit r n (Passed number by') = (by' < n) × (is_hit r by' ≡ true) × NoHitBelow r by'

-- the pieces were searched up to and with the first that ends at the opening bound, and each behind
-- it was passed by that one
abbrev pub StopsAtHit : Told → List Entry → Type 0
StopsAtHit r es = (n : ℕ) (d : Entry) → n < length es → IsUpToHit r n (slice_index_or es n d).kind
