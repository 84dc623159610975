-- Placements that some word has.
use Rattle.std.specs.Prelude.{ℕ, List}
use Rattle.shop_model.specs.{Shop.Shop, Word.{IsWord, placing}, Placements.{PlacementState, IsPlacement}}

-- the placement is that of a word of the instance
pub record IsOfWord (shop : Shop) (s : PlacementState) : Type 0 where
  pub word : List ℕ
  pub fits : IsWord shop word
  pub placed : IsPlacement shop (placing shop word) s
