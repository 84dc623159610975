use Rattle.std.proofs.Common.{take}
use Rattle.shop_model.specs.Word.{placing}
use Rattle.shop_states.specs.inner.PlacedNexts.{IsPlacedAt}
use Rattle.shop_states.proofs.placing.place_from.Given as goal

abbrev pub invariant-loop-index : goal.invariant-loop-index
invariant-loop-index g l = IsPlacedAt l.laid_out.shop (placing l.laid_out.shop (take l.index l.path))
    l.laid_out.layout l.next_legs l.ready l.free
