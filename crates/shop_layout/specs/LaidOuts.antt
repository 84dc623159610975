-- An instance laid out in lanes of one width.
--     IsReady greatest shop l        the layout is that of the instance, and lanes hold it
use Rattle.std.specs.Prelude.{ℕ, ◌<◌, ◌^◌}
use Rattle.shop_model.specs.{Limits.IsWithinLimits, Shop.Shop}
use Rattle.shop_layout.specs.{HeadLimits.FitsLanes, Positions.{IsLaidOut, LayoutState}}

-- `asked` is the instance as it was given, and `shop` is it with each machine called by its number in the layout
pub record LaidOutState : Type 0 where
  pub shop : Shop
  pub asked : Shop
  pub layout : LayoutState

pub record IsReady (greatest : ℕ) (shop : Shop) (l : LayoutState) : Type 0 where
  pub limits : IsWithinLimits shop
  pub laid : IsLaidOut shop l
  pub holds : FitsLanes greatest shop l
  pub computable : greatest < 2 ^ 64
