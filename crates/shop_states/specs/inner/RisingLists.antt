-- Lists of numbers each of which is below all later ones.
--     IsIn xs q                      q is one of the list
--     Rises xs                       each is below all later ones
--     HasGathered P old new          the new list is the old one with all for which P holds
--     IsGatheredWith j P xs          the list has j and all for which P holds, in order
use Rattle.std.specs.Prelude.{◌≡◌, ℕ, ◌<◌, ◌⊎◌, List, [], ◌∷◌}

abbrev pub IsIn : List ℕ → ℕ → Type 0
IsIn [] q = ⊥
IsIn (x ∷ xs) q = (q ≡ x) ⊎ IsIn xs q

abbrev pub Rises : List ℕ → Type 0
Rises [] = Unit {0}
Rises (x ∷ xs) = ((q : ℕ) → IsIn xs q → x < q) × Rises xs

pub record HasGathered (P : ℕ → Type 0) (old new : List ℕ) : Type 0 where
  pub kept : (q : ℕ) → IsIn old q → IsIn new q
  pub gathered : (q : ℕ) → P q → IsIn new q
  pub only : (q : ℕ) → IsIn new q → IsIn old q ⊎ P q

pub record IsGatheredWith (j : ℕ) (P : ℕ → Type 0) (xs : List ℕ) : Type 0 where
  pub has : IsIn xs j
  pub gathered : (q : ℕ) → P q → IsIn xs q
  pub only : (q : ℕ) → IsIn xs q → (q ≡ j) ⊎ P q
  pub rises : Rises xs
