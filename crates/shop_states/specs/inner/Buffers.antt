-- What a dispatcher keeps beside its layout.
--     AreBuffersOf shop l ready ..  there is room for the times of jobs and machines, a beginning of a word, raises at
--                                   rest, an own span for each position of any one machine, a ceiling for each machine
use Rattle.std.specs.Prelude.{◌≡◌, ℕ, List, length}
use Rattle.shop_model.specs.Shop.{Shop}
use Rattle.shop_layout.specs.Positions.{HoldsMachines, LayoutState}
use Rattle.shop_states.specs.{inner.MachineRaises.AreEmpty, inner.LaneRaises.Raise}
use Rattle.shop_states.specs.{declared.beginnings.Beginning.Beginning, inner.Beginnings.IsBeginningOf}

pub record AreBuffersOf (shop : Shop) (l : LayoutState) (ready free : ℕ) (beginning : Beginning)
    (raises : List Raise) (owns numbers : ℕ) : Type 0 where
  pub jobs_ready : ready ≡ length shop.jobs
  pub machines_free : free ≡ shop.machines
  pub begun : IsBeginningOf shop l beginning
  pub machines : length raises ≡ shop.machines
  pub at_rest : AreEmpty raises
  pub holds : HoldsMachines l owns
  pub ceilings : numbers ≡ shop.machines
