-- What a bound says of all tables.
--     IsLower shop w b          no table under the word ends before b
--     BoundsAreLower            no table under a word ends before the word's bound
--     SumsStaySmall             within the limits no sum of what a word leaves reaches 2 ^ 49
--     FullWordsEndAtTheirBound  a full word places a table under it and each of its beginnings, which ends at its bound
use Rattle.std.specs.Prelude.{◌≡◌, ℕ, ◌≤◌, ◌<◌, ◌^◌, List, ◌++◌}
use Rattle.shop_model.specs.{Limits.IsWithinLimits, Shop.{Shop, Starts, IsFeasible, end_of}}
use Rattle.shop_model.specs.Word.{IsWord, IsFull, IsUnder, placed, placing}
use Rattle.shop_bound.specs.{Bound.{waiting, triples_on, placed_end, lb}, OneMachine.extent}

abbrev pub IsLower : Shop → List ℕ → ℕ → Type 0
IsLower shop w b = (starts : Starts) → IsUnder shop w starts → b ≤ end_of shop starts

abbrev pub BoundsAreLower : Type 0
BoundsAreLower = (shop : Shop) (w : List ℕ) → IsWord shop w → IsLower shop w (lb shop w)

-- the table that a full word places is feasible, lies under the word and each of its beginnings, and ends at its bound
pub record EndsAtItsBound (shop : Shop) (w : List ℕ) : Type 0 where
  pub feasible : IsFeasible shop (placed shop w)
  pub under : (v later : List ℕ) → w ≡ v ++ later → IsUnder shop v (placed shop w)
  pub ends : end_of shop (placed shop w) ≡ lb shop w

abbrev pub FullWordsEndAtTheirBound : Type 0
FullWordsEndAtTheirBound = (shop : Shop) (w : List ℕ) → IsFull shop w → EndsAtItsBound shop w

-- a full word's table is feasible, lies under the word and each of its beginnings, and ends at b
abbrev pub EndsThereIfFull : Shop → List ℕ → ℕ → Type 0
EndsThereIfFull shop w b = IsFull shop w → EndsAtItsBound shop w × (b ≡ end_of shop (placed shop w))

-- what is added up of a word stays below 2 ^ 49
pub record AreSumsSmall (shop : Shop) (w : List ℕ) : Type 0 where
  -- of each machine, the greatest head, the times and the greatest tail of the operations that wait for it
  pub triples : (m : ℕ) → extent (triples_on m (waiting shop (placing shop w))) < 2 ^ 49
  pub ends : placed_end shop (placing shop w) < 2 ^ 49
  pub bound : lb shop w < 2 ^ 49

abbrev pub SumsStaySmall : Type 0
SumsStaySmall = (shop : Shop) (w : List ℕ) → IsWithinLimits shop → IsWord shop w → AreSumsSmall shop w

-- the bound of a word is at most the bound of each word that it begins
abbrev pub BoundsNeverFall : Type 0
BoundsNeverFall = (shop : Shop) (v later : List ℕ) → IsWithinLimits shop → IsWord shop (v ++ later)
    → lb shop v ≤ lb shop (v ++ later)
