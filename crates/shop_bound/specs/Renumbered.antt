-- Instances that differ in the numbers of their machines alone.
--     IsRenumbered shop other  as many jobs, of the same releases, steps and times, and two operations share a machine
--                              in one of them just if they do in the other
--     AreAlike shop other      the same words, with the same bounds and conflict sets
--     NumbersDontMatter        such instances are alike
use Rattle.std.specs.Prelude.{◌≡◌, ◌↔◌, ℕ, List, length}
use Rattle.shop_model.specs.{Limits.IsWithinLimits, Shop.{Shop, IsOperation, machine_of, release_of, route_of, time_of}}
use Rattle.shop_model.specs.Word.{IsWord}
use Rattle.shop_bound.specs.{Bound.lb, Conflicts.conflict}

pub record IsRenumbered (shop other : Shop) : Type 0 where
  pub jobs : length other.jobs ≡ length shop.jobs
  pub releases : (j : ℕ) → release_of other j ≡ release_of shop j
  pub steps : (j : ℕ) → length (route_of other j) ≡ length (route_of shop j)
  pub times : (j k : ℕ) → time_of other j k ≡ time_of shop j k
  pub together : (j k i l : ℕ) → IsOperation shop j k → IsOperation shop i l
      → (machine_of other j k ≡ machine_of other i l) ↔ (machine_of shop j k ≡ machine_of shop i l)

pub record AreAlike (shop other : Shop) : Type 0 where
  pub words : (w : List ℕ) → IsWord shop w ↔ IsWord other w
  pub bounds : (w : List ℕ) → IsWord shop w → lb other w ≡ lb shop w
  pub conflicts : (w : List ℕ) → IsWord shop w → conflict other w ≡ conflict shop w

abbrev pub NumbersDontMatter : Type 0
NumbersDontMatter = (shop other : Shop) → IsWithinLimits shop → IsWithinLimits other
    → IsRenumbered shop other → AreAlike shop other
