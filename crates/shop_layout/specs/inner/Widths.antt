-- For which lanes a layout is made.
--     FitsIn greatest each shop l    lanes up to `greatest`, with code for `each` blocks a machine, hold the layout
--     IsReadyAbove most shop l       lanes up to any number above `most` hold the layout
use Rattle.std.specs.Prelude.{ℕ, ◌<◌, ◌^◌}
use Rattle.shop_model.specs.Shop.{Shop}
use Rattle.shop_layout.specs.{LaidOuts.IsReady, Positions.{AreEven, LayoutState}}

pub record FitsIn (greatest each : ℕ) (shop : Shop) (l : LayoutState) : Type 0 where
  pub ready : IsReady greatest shop l
  pub even : AreEven l.blocks each

abbrev pub IsReadyAbove : ℕ → Shop → LayoutState → Type 0
IsReadyAbove most shop l = (greatest : ℕ) → most < greatest → greatest < 2 ^ 64 → IsReady greatest shop l
