-- What a desk has dispatched.
--     DeskState                      the instance, and the word of what is dispatched
--     with_dispatch s job            s with one more operation of the job dispatched
--     IsUndone s t                   t is s without its last entry
--     IsWordOfShop s                 the word is one of the instance, which is within its limits
use Rattle.std.specs.Prelude.{◌≡◌, ℕ, List, [], ◌∷◌, ◌++◌}
use Rattle.shop_model.specs.{Limits.IsWithinLimits, Shop.Shop, Word.IsWord}

pub record DeskState : Type 0 where
  pub shop : Shop
  pub word : List ℕ

abbrev pub nothing_dispatched : Shop → DeskState
nothing_dispatched shop = record { shop = shop; word = [] }

abbrev pub with_dispatch : DeskState → ℕ → DeskState
with_dispatch s job = record { shop = s.shop; word = s.word ++ job ∷ [] }

abbrev pub IsUndone : DeskState → DeskState → Type 0
IsUndone s t = (word : List ℕ) (job : ℕ) → s.word ≡ word ++ job ∷ [] → t ≡ record { shop = s.shop; word = word }

pub record IsWordOfShop (s : DeskState) : Type 0 where
  pub word : IsWord s.shop s.word
  pub limits : IsWithinLimits s.shop
