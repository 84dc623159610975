-- Heads by position of what a word leaves.
--     AreStored shop steps f l ..  one more than f of each step that isn't counted, where that stands, and 0 elsewhere
--     AreHeadsAt shop p l heads    one more than the head of what waits, and 0 elsewhere
--     AreHeadsFit greatest shop    no head or end is too great to be stored
use Rattle.std.specs.Prelude.{◌≡◌, ℕ, ◌+◌, ◌≤◌, ◌<◌, List, length, slice_index}
use Rattle.shop_model.specs.{Shop.{Shop, IsOperation, time_of}, Word.{Placing, IsWord, placing}}
use Rattle.shop_bound.specs.Heads.{head_of}
use Rattle.shop_layout.specs.Positions.{IsFree, LayoutState, first_position, position_of}

pub record AreStored (shop : Shop) (steps : ℕ → ℕ) (f : ℕ → ℕ → ℕ) (l : LayoutState) (numbers : List ℕ) : Type 0 where
  pub positions : length numbers ≡ first_position l shop.machines
  pub waiting : (j k : ℕ) → IsOperation shop j k → steps j ≤ k → slice_index numbers (position_of l j k) ≡ f j k + 1
  pub placed : (j k : ℕ) → IsOperation shop j k → k < steps j → slice_index numbers (position_of l j k) ≡ 0
  pub padding : (q : ℕ) → IsFree shop l q → slice_index numbers q ≡ 0

abbrev pub AreHeadsAt : Shop → Placing → LayoutState → List ℕ → Type 0
AreHeadsAt shop p l heads = AreStored shop p.steps (head_of shop p) l heads

-- whatever is placed, one more than the end of what waits, from its head on, is at most the greatest number
abbrev pub AreHeadsFit : ℕ → Shop → Type 0
AreHeadsFit greatest shop = (w : List ℕ) → IsWord shop w → (j k : ℕ) → IsOperation shop j k
    → (placing shop w).steps j ≤ k → head_of shop (placing shop w) j k + time_of shop j k < greatest
