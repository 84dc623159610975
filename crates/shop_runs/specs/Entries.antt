-- What an entry of a round says.
use Rattle.std.proofs.Props.{props}
use Rattle.std.specs.Prelude.{◌≡◌, ℕ, ◌<◌, Bool, true, [], length, slice_index_or, ◌==◌}
use Rattle.shop_runs.specs.{Round.{Told, sheet_in}, Nodes.told_of, declared.entries.Kind.Kind}
use Rattle.shop_runs.specs.{declared.entries.Kind.TheVariants.{Done, Passed}, declared.rounds.Round.Round}
use Rattle.shop_nodes.specs.{Nodes.words_of, declared.sheets.Sheet.Sheet}

-- the round as definitions speak of it
abbrev pub told : Round → Told
told r = told_of r.instance.now r.word r.best r.bound r.budget r.pieces.items r.rest.items r.rounds r.nodes

-- the n-th piece ends at the opening bound
abbrev pub is_hit : Told → ℕ → Bool
is_hit r n = (sheet_in r (slice_index_or r.pieces n [])).best == r.bound

-- the sheet tells whether the n-th piece ends at the opening bound
abbrev pub TellsHit : Told → ℕ → Sheet → Type 0
TellsHit r n s = is_hit r n ≡ (s.makespan == r.bound)

-- the sheet is of a piece of the round, from its instance, opening best and budget
abbrev pub IsOf : Told → Sheet → Type 0
IsOf r s = (s.instance.now ≡ r.shop) × (s.best ≡ r.best) × (s.budget ≡ r.budget) × (s.number < length r.pieces)
    × (words_of s.piece.now.nodes.items ≡ slice_index_or r.pieces s.number [])

-- a piece of the round that a lower one, which ends at the opening bound, lets pass
abbrev pub MayPass : Told → ℕ → ℕ → Type 0
MayPass r number by' = (by' < number) × (number < length r.pieces) × (is_hit r by' ≡ true)

-- what an entry of this kind says fits the round
abbrev pub Fits : Told → Kind → Type 0
Fits r (Done s) = IsOf r s
Fits r (Passed number by') = MayPass r number by'

pub Fits-prop : (r : Told) (k : Kind) → IsProp (Fits r k)
Fits-prop r (Done s) = hlevel props
Fits-prop r (Passed number by') = hlevel props

-- the number of the entry's piece
abbrev pub number_of : Kind → ℕ
number_of (Done s) = s.number
number_of (Passed number by') = number
