use Rattle.std.proofs.Common.{take, map}
use Rattle.shop_model.{specs.{Placements.IsPlacement, Word.placing}, proofs.StartRows.HasRows}
use Rattle.shop_model.proofs.placing.place.Given as goal

abbrev pub invariant-loop-index : goal.invariant-loop-index
invariant-loop-index l = IsPlacement l.instance (placing l.instance (take l.index l.word)) l.placement
    × HasRows l.instance (placing l.instance (take l.index l.word)) (map (λ r. r.items) l.rows.items)
