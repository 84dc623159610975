use Rattle.std.proofs.Common.{◌∙◌, ap, replicate}
use Rattle.shop_model.proofs.PlacementLemmas.{none_is}
use Rattle.shop_model.proofs.placements.Placement.none.Goals as goal

pub returns : goal.returns
returns c = none_is c.args.instance.now _
    (c.in_ok-steps.ensures.items_if_clones_equal (λ y e. e) ∙ ap (λ n. replicate n 0) c.jobs.ensures)
    c.in_ok-ready.ensures
    (c.in_ok-free.ensures.items_if_clones_equal (λ y e. e) ∙ ap (λ n. replicate n 0) c.machines.ensures)
