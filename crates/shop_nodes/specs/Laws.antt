-- What branching and the search of a piece keep.
--     HasBetter shop words starts  some table under one of the words ends no later than this one
use Rattle.std.specs.Prelude.{◌≡◌, ℕ, ◌≤◌, ◌⊎◌, Option, Some, None, List, Contains}
use Rattle.shop_model.specs.{Shop.{Shop, Starts, end_of}, Word.{IsWord, IsFull, IsUnder}}
use Rattle.shop_bound.specs.Bound.{lb}
use Rattle.shop_nodes.specs.{Branching.branch, Walking.{Walk, sheet}}

pub record HasBetter (shop : Shop) (words : List (List ℕ)) (starts : Starts) : Type 0 where
  pub word : List ℕ
  pub member : Contains words word
  pub better : Starts
  pub under : IsUnder shop word better
  pub ends : end_of shop better ≤ end_of shop starts

-- some child of w has a table under it that ends no later
pub record HasBetterChild (shop : Shop) (w : List ℕ) (starts : Starts) : Type 0 where
  pub child : List ℕ
  pub is_child : Contains (branch shop w) child
  pub is_word : IsWord shop child
  pub better : Starts
  pub under : IsUnder shop child better
  pub ends : end_of shop better ≤ end_of shop starts

-- each table under w has one under some child that ends no later
abbrev pub HaveBetterChildren : Shop → List ℕ → List (List ℕ) → Type 0
HaveBetterChildren shop w children = (starts : Starts) → IsUnder shop w starts → HasBetter shop children starts

-- each table under a word that isn't full has a better child
abbrev pub LosesNoTable : Type 0
LosesNoTable = (shop : Shop) (w : List ℕ) (starts : Starts) → IsWord shop w → (IsFull shop w → ⊥)
    → IsUnder shop w starts → HasBetterChild shop w starts

-- all are words of the instance
abbrev pub AreWords : Shop → List (List ℕ) → Type 0
AreWords shop words = (w : List ℕ) → Contains words w → IsWord shop w

-- what is best after a search that began with `opening`: that, if nothing was found, and else the
-- bound of the word found, which is full
abbrev pub IsBestOf : Shop → ℕ → ℕ → Option (List ℕ) → Type 0
IsBestOf shop opening best None = best ≡ opening
IsBestOf shop opening best (Some w) = IsFull shop w × (best ≡ lb shop w)

-- What the search of a piece keeps.
pub record KeepsPiece (shop : Shop) (piece : List (List ℕ)) (opening : ℕ) (s : Walk) : Type 0 where
  pub found : IsBestOf shop opening s.best s.found
  pub best : s.best ≤ opening
  pub left : AreWords shop s.left
  -- each table under a word of the piece ends at the best or later, or no earlier than one under a word left
  pub tables : (starts : Starts) → HasBetter shop piece starts → (s.best ≤ end_of shop starts)
      ⊎ HasBetter shop s.left starts

-- the search of a piece loses no table
abbrev pub SearchesLoseNoTable : Type 0
SearchesLoseNoTable = (shop : Shop) (piece : List (List ℕ)) (best budget : ℕ) → AreWords shop piece
    → KeepsPiece shop piece best (sheet shop piece best budget)
