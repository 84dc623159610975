-- Room for the bounds of an instance.
use Rattle.std.specs.Prelude.{ℕ, ◌≤◌, ◌<◌}
use Rattle.shop_model.specs.Shop.{Shop}
use Rattle.shop_bound.specs.{declared.lower.BoundRoom.BoundRoom, inner.MachineLists.{visits_in, HaveRoom}}

-- for all operations of each machine, and for the schedule of any machine
pub record IsRoomFor (shop : Shop) (r : BoundRoom) : Type 0 where
  pub lists : HaveRoom shop r.lists.items
  pub schedule : (m : ℕ) → m < shop.machines → visits_in shop m ≤ r.jackson.room
