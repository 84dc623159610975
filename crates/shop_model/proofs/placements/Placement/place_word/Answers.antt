use Rattle.std.proofs.Common.{subst, sym}
use Rattle.shop_model.{specs.{Word.Placing, Placements.IsPlacement}, proofs.PlacementLemmas.placing-job}
use Rattle.shop_model.proofs.placements.Placement.place_word.Goals as goal

pub loop-index-preserved : goal.loop-index-preserved
loop-index-preserved c =
    let shop = c.args.instance.now
    in subst (λ (p : Placing). IsPlacement shop p c.place_next-start.new.self)
    (sym (placing-job shop c.args.word.now c.loop-index.index c.len-index-end.result c.job.result
    c.loop-index-test.true c.len-index-end.ensures c.job.ensures))
    (c.place_next-start.ensures.placed _ c.loop-index.invariant)
