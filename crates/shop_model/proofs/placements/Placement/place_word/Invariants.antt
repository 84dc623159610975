use Rattle.std.proofs.Common.{take}
use Rattle.shop_model.specs.{Word.placing, Placements.IsPlacement}
use Rattle.shop_model.proofs.placements.Placement.place_word.Given as goal

abbrev pub invariant-loop-index : goal.invariant-loop-index
invariant-loop-index l = IsPlacement l.instance (placing l.instance (take l.index l.word)) l.self
