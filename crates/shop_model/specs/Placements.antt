-- What a program keeps of a placing: lists in place of functions.
use Rattle.std.specs.Prelude.{◌≡◌, ℕ, ◌<◌, List, [], ◌∷◌, ◌++◌, length, slice_index}
use Rattle.shop_model.specs.{Shop.{Shop, machine_of}, Word.{Placing, IsWord, place_next, placing}}

-- for each job how many of its steps are placed and when it is ready for the next one, and when each machine is free
pub record PlacementState : Type 0 where
  pub steps : List ℕ
  pub ready : List ℕ
  pub free : List ℕ

-- it has an entry for each job and each machine of the instance
pub record HasEntries (shop : Shop) (s : PlacementState) : Type 0 where
  pub steps : length s.steps ≡ length shop.jobs
  pub ready : length s.ready ≡ length shop.jobs
  pub free : length s.free ≡ shop.machines

-- it tells what the placing says of the jobs and the machines of the instance
pub record IsPlacement (shop : Shop) (p : Placing) (s : PlacementState) : Type 0 where
  pub entries : HasEntries shop s
  pub steps : (j : ℕ) → j < length shop.jobs → slice_index s.steps j ≡ p.steps j
  pub ready : (j : ℕ) → j < length shop.jobs → slice_index s.ready j ≡ p.ready j
  pub free : (m : ℕ) → m < shop.machines → slice_index s.free m ≡ p.free m

-- it is the placement of a word to which j can be added
pub record HasNext (shop : Shop) (j : ℕ) (s : PlacementState) : Type 0 where
  pub word : List ℕ
  pub fits : IsWord shop (word ++ j ∷ [])
  pub placed : IsPlacement shop (placing shop word) s

-- whatever was placed, t is the placement with the next step of j
abbrev pub PlacesNext : Shop → ℕ → PlacementState → PlacementState → Type 0
PlacesNext shop j s t = (p : Placing) → IsPlacement shop p s → IsPlacement shop (place_next shop p j) t

-- whatever was placed, the next step of j begins then
abbrev pub TellsNextStart : Shop → ℕ → PlacementState → ℕ → Type 0
TellsNextStart shop j s start =
    (p : Placing) → IsPlacement shop p s → start ≡ (place_next shop p j).begins j (p.steps j)

-- it is the placement of a word that ends in j
pub record HasLast (shop : Shop) (j : ℕ) (s : PlacementState) : Type 0 where
  pub word : List ℕ
  pub fits : IsWord shop (word ++ j ∷ [])
  pub placed : IsPlacement shop (placing shop (word ++ j ∷ [])) s

-- whatever was placed before the last step of j, at which j was ready and its machine free at these
-- times, t is the placement of that
abbrev pub TakesBack : Shop → ℕ → ℕ → ℕ → PlacementState → PlacementState → Type 0
TakesBack shop j ready free s t = (p : Placing) → IsPlacement shop (place_next shop p j) s → ready ≡ p.ready j
    → free ≡ p.free (machine_of shop j (p.steps j)) → IsPlacement shop p t
