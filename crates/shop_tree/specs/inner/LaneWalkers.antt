-- A walk, whatever the width of its lanes.
--     shop_walked w        the instance that it searches
--     HasLaneStates w      its states are kept
--     IsWalkOf shop w      it searches this instance, and its states are kept
use Rattle.std.specs.Prelude.{◌≡◌}
use Rattle.shop_model.specs.Shop.{Shop}
use Rattle.shop_tree.specs.declared.searchers.LaneWalker.TheVariants.{In16By2, In16By3, In16By4, In16, In32, In64}
use Rattle.shop_tree.specs.{declared.searchers.LaneWalker.LaneWalker, inner.StateWalkers.HasStates}

abbrev pub shop_walked : LaneWalker → Shop
shop_walked (In16By2 w) = w.instance.now
shop_walked (In16By3 w) = w.instance.now
shop_walked (In16By4 w) = w.instance.now
shop_walked (In16 w) = w.instance.now
shop_walked (In32 w) = w.instance.now
shop_walked (In64 w) = w.instance.now

abbrev pub HasLaneStates : LaneWalker → Type 0
HasLaneStates (In16By2 w) = HasStates w
HasLaneStates (In16By3 w) = HasStates w
HasLaneStates (In16By4 w) = HasStates w
HasLaneStates (In16 w) = HasStates w
HasLaneStates (In32 w) = HasStates w
HasLaneStates (In64 w) = HasStates w

abbrev pub IsWalkOf : Shop → LaneWalker → Type 0
IsWalkOf shop w = (shop_walked w ≡ shop) × HasLaneStates w
